-- `loaded::link_good` meets its contract: the same tests.
-- Assumes nothing.
use Rattle.format.proofs.Bools.{both}
use Rattle.loaded.proofs.link_good.Goals as goal

pub returns : goal.returns
returns c = simp both
