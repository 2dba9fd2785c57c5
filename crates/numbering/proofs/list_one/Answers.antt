-- `list_one` meets its contract, by what becomes of the variable.
-- Assumes nothing.
use mathlib.Core.Path.{sym, ap, ◌∙◌}
use Rattle.fates.specs.Maps.{becomes}
use Rattle.numbering.proofs.Listing.{listed_none, listed_new}
use Rattle.numbering.proofs.list_one.Goals as goal

pub returns-in-Locked : goal.returns-in-Locked
returns-in-Locked c = listed_none _ _ _ _ (sym c.code.ensures ∙ ap becomes c.in-Locked.is)

pub returns-in-New : goal.returns-in-New
returns-in-New c = listed_new _ _ _ _ (sym c.code.ensures ∙ ap becomes c.in-New.is) c.narrow.ensures c.write_word.ensures
