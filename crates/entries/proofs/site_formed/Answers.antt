-- `entries::site_formed` meets its contract, column by column.
-- Assumes nothing.
use mathlib.Core.Path.{◌≡◌, sym, ◌∙◌}
use Rattle.plpb.specs.Lists.{◌and◌}
use Rattle.cells.specs.Grammar.{column_of}
use Rattle.rows.specs.Reading.{Holds}
use Rattle.lists.specs.Refusals.{Entry, is_name, is_number}
use Rattle.entries.proofs.Tests.{and_then, and_else, site_by_columns}
use Rattle.entries.proofs.site_formed.Goals as goal
use Rattle.entries.proofs.site_formed.Goals.{Joined-is_name, then-is_name, else-is_name}

-- What the tests of the first columns come to.
two : (c : Joined-is_name) {x : Entry} → Holds x c.args.row → c.if-is_name.value ≡ (is_name (column_of 0 x) and is_number (column_of 1 x))
two c h = elim c.if-is_name.branch [
  | then-is_name w ↦ and_then (sym (c.is_name.ensures _ h.first_is) ∙ w.if-is_name.true) (w.value-is ∙ w.is_number.ensures _ h.second_is)
  | else-is_name w ↦ and_else _ (sym (c.is_name.ensures _ h.first_is) ∙ w.if-is_name.false) (w.value-is ∙ w.if-is_name.false)
]

pub returns-then-is_number : goal.returns-then-is_number
returns-then-is_number c x h =
    and_then (sym (two (goal.at.returns-then-is_number c).Joined-is_name h) ∙ c.if-is_number.true) (c.is_name-then-is_number.ensures _ h.third_is) ∙ site_by_columns x h.formed

pub returns-else-is_number : goal.returns-else-is_number
returns-else-is_number c x h =
    and_else _ (sym (two (goal.at.returns-else-is_number c).Joined-is_name h) ∙ c.if-is_number.false) c.if-is_number.false ∙ site_by_columns x h.formed
