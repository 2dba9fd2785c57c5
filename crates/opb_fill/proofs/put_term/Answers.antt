-- `opb_fill::put_term` meets its contract.
-- Assumes nothing.
use mathlib.Core.Path.{◌∙◌}
use Rattle.words.proofs.Writes.{first_words}
use Rattle.opb_fill.proofs.put_term.Goals as goal

pub returns : goal.returns
returns c = c.write_two.ensures ∙ first_words _ _
