-- `tables::entries::put_clause` meets its contract.
-- Assumes nothing.
use mathlib.Core.Path.{◌∙◌}
use Rattle.words.proofs.Writes.{first_words}
use Rattle.tables.proofs.entries.put_clause.Goals as goal

pub returns : goal.returns
returns c =
    c.write_two.ensures ∙ first_words _ _ ∙ rw (c.narrow.ensures, c.narrow-2.ensures)
