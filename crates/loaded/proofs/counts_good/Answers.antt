-- `loaded::counts_good` meets its contract: the same tests.
-- Assumes nothing.
use Rattle.format.proofs.Bools.{both}
use Rattle.loaded.proofs.counts_good.Goals as goal

pub returns : goal.returns
returns c = simp both
