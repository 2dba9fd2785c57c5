-- `words::write_u16` meets its contract: the number's two low bytes are copied to their place.
-- Assumes nothing.
use mathlib.Core.Path.{ap, ◌∙◌}
use lib.ListN.{take}
use Rattle.words.proofs.Writes.{low_bytes, lent_number}
use Rattle.words.proofs.write_u16.Goals as goal

pub returns : goal.returns
returns c =
    lent_number 2 c.args.at c.args.v c.args.s.now (c.copy_from_slice.ensures.after ∙ ap (take 2) c.to_le_bytes.ensures ∙ low_bytes c.args.v)
