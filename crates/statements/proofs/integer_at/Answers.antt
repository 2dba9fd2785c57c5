-- `statements::integer_at` meets its contract.
-- Assumes nothing.
use mathlib.Core.Path.{ap, sym, ◌∙◌}
use native.Mathlib.Omega.{arith}
use lib.Dec.{ltb}
use Rattle.tokens.specs.Tokens.{digits_end, number_at, seen}
use Rattle.tokens.proofs.Runs.{read_behind, behind}
use Rattle.tokens.specs.Found.{Reads, Behind}
use Rattle.statements.specs.Grammar.{unsigned_from, integer_end, is_integer}
use Rattle.statements.proofs.Parts.{sign_passed, byte_is}
use Rattle.statements.proofs.integer_at.Goals as goal

pub returns-in_err-number : goal.returns-in_err-number
unfolding integer_end is_integer
returns-in_err-number c =
    let from : Reads (Behind unsigned_from) c.args.t c.unwrap_or.result = rw (c.unwrap_or.ensures, c.or.ensures) (sign_passed c.args.t _ _ c.past_word-minus.ensures c.past_word.ensures) in
    rw c.from_residual.ensures (sym (read_behind from (λ s k. ltb k (digits_end s k))) ∙ c.in_err-number.ensures)

pub returns : goal.returns
unfolding integer_end is_integer
returns c =
    let from : Reads (Behind unsigned_from) c.args.t c.unwrap_or.result = rw (c.unwrap_or.ensures, c.or.ensures) (sign_passed c.args.t _ _ c.past_word-minus.ensures c.past_word.ensures) in
    let number = c.in_ok-number.ensures in (
      sym (read_behind from (λ s k. ltb k (digits_end s k))) ∙ number.0,
      record {
        value = record { negative = c.is_some.ensures ∙ byte_is 45 (omega arith) c.args.t c.past_word-minus.result c.past_word-minus.ensures; size = number.1.value ∙ ap seen (read_behind from number_at) };
        rest = behind from number.1.rest;
      },
    )
