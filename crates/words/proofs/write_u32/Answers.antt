-- `words::write_u32` meets its contract: the number's bytes are copied to their place.
-- Assumes nothing.
use mathlib.Core.Path.{◌∙◌}
use Rattle.words.proofs.Writes.{four_bytes, lent_number}
use Rattle.words.proofs.write_u32.Goals as goal

pub returns : goal.returns
returns c = lent_number 4 c.args.at c.args.v c.args.s.now (c.copy_from_slice.ensures.after ∙ c.to_le_bytes.ensures ∙ four_bytes c.args.v)
