-- `opb_judge::constraint_step` meets its contract.
-- Assumes nothing.
use native.Mathlib.Omega.{arith}
use mathlib.Core.Bool.{false}
use mathlib.Core.Path.{◌≡◌, refl, subst}
use Rattle.std.proofs.lemmas.Result.{err_from_is_err_and}
use Rattle.statements.specs.Grammar.{has_terms}
use Rattle.opb_judge.proofs.Faults.{not_there, there, told_on, refused_none, refused_zero, sum_plain, sum_moved, constraint_few}
use Rattle.opb_judge.proofs.constraint_step.Goals as goal

pub returns-in_err-sum : goal.returns-in_err-sum
unfolding has_terms
returns-in_err-sum c =
    let none = not_there _ _ _ c.sum_at.ensures c.in_err-sum.ensures.value in
    let is = err_from_is_err_and c.from_residual.result c.from_residual.ensures.1 in
    rw (is.1, is.2) (told_on refl none.1 (refused_none _ _ (subst (λ k. has_terms c.args.line.text.bytes.now k ≡ false) (sum_plain _ _ c.requires) none.0)))

pub constraint_fault-requires : goal.constraint_fault-requires
constraint_fault-requires c = (sum_moved refl refl c.args.line.named (there _ _ _ _ c.sum_at.ensures c.in_ok-sum.ensures.value).1, c.requires)

pub overflow_add-result : goal.overflow_add-result
overflow_add-result c = omega (arith, (constraint_few _ _ _ _ _ (refused_zero _ _ c.in_ok-constraint_fault.ensures).1).0)

pub overflow_add-result-2 : goal.overflow_add-result-2
overflow_add-result-2 c =
    omega (arith, (there _ _ _ _ c.sum_at.ensures c.in_ok-sum.ensures.value).1.count, (constraint_few _ _ _ _ _ (refused_zero _ _ c.in_ok-constraint_fault.ensures).1).1)
