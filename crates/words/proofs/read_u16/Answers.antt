-- `words::read_u16` meets its contract: two bytes are the number at their place.
-- Assumes nothing.
use mathlib.Core.Path.{◌∙◌}
use Rattle.words.proofs.Writes.{num_two}
use Rattle.words.proofs.read_u16.Goals as goal

pub returns : goal.returns
returns c = c.from.ensures ∙ c.from_le_bytes.ensures ∙ num_two c.args.s.now c.args.at
