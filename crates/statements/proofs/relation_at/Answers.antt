-- `statements::relation_at` meets its contract.
-- Assumes nothing.
use native.Mathlib.Omega.{arith}
use mathlib.Core.Path.{◌∙◌}
use Rattle.statements.specs.Grammar.{is_exact}
use Rattle.statements.proofs.Parts.{byte_is, relation_found, no_relation, no_bound, bound_is, both_there, bound_ends, signed_behind}
use Rattle.statements.proofs.relation_at.Goals as goal

pub returns-in_err-behind : goal.returns-in_err-behind
returns-in_err-behind c =
    rw c.from_residual.ensures (no_relation _ _ (relation_found c.args.t _ _ c.in_err-behind.ensures c.past_word-equal.ensures c.past_word.ensures))

pub returns-in_err-bound : goal.returns-in_err-bound
returns-in_err-bound c =
    let behind = relation_found c.args.t _ _ c.in_ok-behind.ensures c.past_word-equal.ensures c.past_word.ensures in
    rw c.from_residual-in_err-bound.ensures (no_bound behind.1 c.past_blanks.ensures c.in_err-bound.ensures)

pub returns : goal.returns
unfolding is_exact
returns c =
    let behind = relation_found c.args.t _ _ c.in_ok-behind.ensures c.past_word-equal.ensures c.past_word.ensures in
    let bound = c.in_ok-bound.ensures in (
      both_there behind.1 c.past_blanks.ensures behind.0 bound.0,
      record {
        exact = c.is_some.ensures ∙ byte_is 61 (omega arith) c.args.t c.past_word-equal.result c.past_word-equal.ensures;
        bound = signed_behind (bound_is behind.1 c.past_blanks.ensures) bound.1.value;
        rest = bound_ends behind.1 c.past_blanks.ensures bound.1.rest c.past_blanks-2.ensures;
      },
    )
