-- `words::read_u32` meets its contract: four bytes are the number at their place.
-- Assumes nothing.
use mathlib.Core.Path.{◌∙◌}
use Rattle.words.proofs.Writes.{num_four}
use Rattle.words.proofs.read_u32.Goals as goal

pub returns : goal.returns
returns c = c.from_le_bytes.ensures ∙ num_four c.args.s.now c.args.at
