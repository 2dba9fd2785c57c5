-- `seen` meets its contract.
-- Assumes nothing.
use Rattle.joining.proofs.Pairs.{seen_turned}
use Rattle.joining.proofs.Counted.seen.Goals as goal

pub returns-in-Mended : goal.returns-in-Mended
returns-in-Mended c = rw c.in-Mended.is (seen_turned c.requires c.flipped.ensures)
