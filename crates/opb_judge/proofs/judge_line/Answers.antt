-- `opb_judge::judge_line` meets its contract, case by case of the line.
-- Assumes nothing.
use native.Mathlib.Omega.{arith}
use mathlib.Core.Path.{ap}
use lib.ListN.{length}
use borrow.Author.Tests.{eqb-true, eqb-false}
use Rattle.std.proofs.lemmas.Result.{err_from_is_err_and}
use Rattle.opb_judge.specs.declared.Fault.TheVariants.{Malformed}
use Rattle.opb_judge.proofs.Faults.{fault_feed, fault_comment, fault_objective, fault_constraint}
use Rattle.opb_judge.proofs.Steps.{stopping, past_comment, past_objective, past_constraint}
use Rattle.opb_judge.proofs.judge_line.Goals as goal

pub returns-in_err-fault_if : goal.returns-in_err-fault_if
returns-in_err-fault_if c =
    let is = err_from_is_err_and c.from_residual.result c.from_residual.ensures.1 in
    rw (is.1, is.2, c.in_err-fault_if.ensures.1) (stopping _ _ _ Malformed (fault_feed _ _ _ _ _ (omega (arith, c.line_end-end.ensures.at, eqb-true _ _ c.in_err-fault_if.ensures.0))))

pub returns-in-Comment : goal.returns-in-Comment
returns-in-Comment c =
    let end = c.line_end-end in
    let is = c.in-Comment.ensures in
    past_comment _ _ _ (fault_comment _ _ _ _ _ (omega (arith, end.ensures.at, ap length end.ensures.bytes, end.result.within, eqb-false _ _ c.in_ok-fault_if.ensures)) is) is

pub returns-in-Objective : goal.returns-in-Objective
returns-in-Objective c =
    let end = c.line_end-end in
    let is = c.in-Objective.ensures in
    past_objective _ _ _ is.0 c.objective_step.result is.1
    (fault_objective _ _ _ _ _ (omega (arith, end.ensures.at, ap length end.ensures.bytes, end.result.within, eqb-false _ _ c.in_ok-fault_if.ensures)) is.0 is.1)
    c.objective_step.ensures

pub returns-in-Constraint : goal.returns-in-Constraint
returns-in-Constraint c =
    let end = c.line_end-end in
    let is = c.in-Constraint.ensures in
    past_constraint _ _ _ is.0 c.constraint_step.result is.1
    (fault_constraint _ _ _ _ _ (omega (arith, end.ensures.at, ap length end.ensures.bytes, end.result.within, eqb-false _ _ c.in_ok-fault_if.ensures)) is.0 is.1)
    c.constraint_step.ensures
