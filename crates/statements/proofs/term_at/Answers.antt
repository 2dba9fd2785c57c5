-- `statements::term_at` meets its contract.
-- Assumes nothing.
use mathlib.Core.Path.{ap, ◌∙◌}
use Rattle.tokens.specs.Tokens.{number_at, seen}
use Rattle.tokens.proofs.Runs.{read_behind}
use Rattle.statements.proofs.Parts.{no_weight, no_letter, no_x, no_index, no_last, from_is, end_is, all_there}
use Rattle.statements.proofs.term_at.Goals as goal

pub returns-in_err-weight : goal.returns-in_err-weight
returns-in_err-weight c = rw c.from_residual.ensures (no_weight _ _ c.in_err-weight.ensures)

pub returns-in_err-letter : goal.returns-in_err-letter
returns-in_err-letter c = rw c.from_residual-in_err-letter.ensures (no_letter c.in_ok-weight.ensures.1.rest c.in_err-letter.ensures)

pub returns-in_err-from : goal.returns-in_err-from
returns-in_err-from c = rw c.from_residual-in_err-from.ensures (no_x c.in_ok-weight.ensures.1.rest c.in_ok-letter.ensures.1 c.in_err-from.ensures)

pub returns-in_err-index : goal.returns-in_err-index
returns-in_err-index c = rw c.from_residual-in_err-index.ensures (no_index c.in_ok-weight.ensures.1.rest c.in_ok-letter.ensures.1 c.in_ok-from.ensures.1 c.in_err-index.ensures)

pub returns-in_err-rest : goal.returns-in_err-rest
returns-in_err-rest c =
    rw c.from_residual-in_err-rest.ensures (no_last c.in_ok-weight.ensures.1.rest c.in_ok-letter.ensures.1 c.in_ok-from.ensures.1 c.in_ok-index.ensures.1.rest c.in_err-rest.ensures)

pub returns : goal.returns
returns c =
    let weight = c.in_ok-weight.ensures in
    let letter = c.in_ok-letter.ensures in
    let from = c.in_ok-from.ensures in
    let index = c.in_ok-index.ensures in
    let last = c.in_ok-rest.ensures in (
      all_there weight.1.rest letter.1 from.1 index.1.rest weight.0 letter.0 from.0 index.0 last.0,
      record {
        weight = weight.1.value;
        variable = index.1.value ∙ ap seen (read_behind (from_is weight.1.rest letter.1 from.1) number_at);
        rest = end_is weight.1.rest letter.1 from.1 index.1.rest last.1;
      },
    )
