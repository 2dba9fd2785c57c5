-- `joined` meets its contract.
-- Assumes nothing.
use Rattle.counting.proofs.Joining.{joined_one}
use Rattle.joining.proofs.Pair.joined.Goals as goal

pub returns : goal.returns
returns c = record { changed = joined_one _ _ _ _ _ _ _ _ c.add.ensures c.mul.ensures c.mul-2.ensures c.add-2.ensures; left = c.mul-3.ensures }
