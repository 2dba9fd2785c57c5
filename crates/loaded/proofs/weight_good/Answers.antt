-- `loaded::weight_good` meets its contract: the same tests of the same size.
-- Assumes nothing.
use Rattle.format.specs.Limits.{weight_lawful}
use Rattle.format.proofs.Bools.{both}
use Rattle.loaded.proofs.weight_good.Goals as goal

pub returns : goal.returns
unfolding weight_lawful
returns c = simp (both, c.size-m.ensures)
