-- `entries::zone_formed` meets its contract, column by column.
-- Assumes nothing.
use mathlib.Core.Path.{◌≡◌, sym, ◌∙◌}
use Rattle.plpb.specs.Lists.{◌and◌}
use Rattle.cells.specs.Grammar.{column_of}
use Rattle.rows.specs.Reading.{Holds}
use Rattle.lists.specs.Refusals.{Entry, is_name, is_number}
use Rattle.entries.proofs.Tests.{and_then, and_else, zone_by_columns, answer_alike}
use Rattle.entries.proofs.zone_formed.Goals as goal
use Rattle.entries.proofs.zone_formed.Goals.{Joined-is_number, then-is_name, else-is_name, then-is_number, else-is_number}

-- What the tests of the first columns come to.
module _ (c : Joined-is_number) {x : Entry} (h : Holds x c.args.row) where
  two : c.if-is_name.value ≡ (is_name (column_of 0 x) and is_number (column_of 1 x))
  two = elim c.if-is_name.branch [
    | then-is_name w ↦ and_then (sym (c.is_name.ensures _ h.first_is) ∙ w.if-is_name.true) (w.value-is ∙ w.is_number.ensures _ h.second_is)
    | else-is_name w ↦ and_else _ (sym (c.is_name.ensures _ h.first_is) ∙ w.if-is_name.false) (w.value-is ∙ w.if-is_name.false)
  ]

  three : c.if-is_number.value ≡ (is_name (column_of 0 x) and is_number (column_of 1 x) and is_number (column_of 2 x))
  three = elim c.if-is_number.branch [
    | then-is_number w ↦ and_then (sym two ∙ w.if-is_number.true) (w.value-is ∙ w.is_number-then-is_number.ensures _ h.third_is)
    | else-is_number w ↦ and_else _ (sym two ∙ w.if-is_number.false) (w.value-is ∙ w.if-is_number.false)
  ]

pub returns-then-is_number-2 : goal.returns-then-is_number-2
returns-then-is_number-2 c x h g =
    and_then (sym (three (goal.at.returns-then-is_number-2 c).Joined-is_number h) ∙ c.if-is_number-2.true) (c.is_answer.ensures ∙ answer_alike _ _ h.fourth_is (g 3)) ∙ zone_by_columns x h.formed

pub returns-else-is_number-2 : goal.returns-else-is_number-2
returns-else-is_number-2 c x h g =
    and_else _ (sym (three (goal.at.returns-else-is_number-2 c).Joined-is_number h) ∙ c.if-is_number-2.false) c.if-is_number-2.false ∙ zone_by_columns x h.formed
