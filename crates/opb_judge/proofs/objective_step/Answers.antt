-- `opb_judge::objective_step` meets its contract.
-- Assumes nothing.
use mathlib.Core.Path.{refl, sym, ◌∙◌}
use Rattle.tokens.proofs.Runs.{read_behind}
use Rattle.std.proofs.lemmas.Result.{err_from_is_err_and}
use Rattle.statements.specs.Grammar.{has_terms}
use Rattle.opb_judge.proofs.Faults.{not_there, there, told_on, refused_none, sum_behind, sum_moved}
use Rattle.opb_judge.proofs.objective_step.Goals as goal

pub returns-in_err-sum : goal.returns-in_err-sum
unfolding has_terms
returns-in_err-sum c =
    let none = not_there _ _ _ c.sum_at.ensures c.in_err-sum.ensures.value in
    let is = err_from_is_err_and c.from_residual.result c.from_residual.ensures.1 in
    rw (is.1, is.2) (told_on refl none.1 (refused_none _ _ (sym (read_behind (sum_behind _ _ c.requires c.objective_sum.ensures) has_terms) ∙ none.0)))

pub objective_fault-requires : goal.objective_fault-requires
objective_fault-requires c =
    let from = sum_behind _ _ c.requires c.objective_sum.ensures in
    sum_moved from.bytes from.at c.args.line.named (there _ _ _ _ c.sum_at.ensures c.in_ok-sum.ensures.value).1
