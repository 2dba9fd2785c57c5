-- `loaded::bounds_good` meets its contract: the same tests of the same sizes.
-- Assumes nothing.
use Rattle.format.specs.File.{bounds_lawful}
use Rattle.format.proofs.Bools.{both, either}
use Rattle.loaded.proofs.bounds_good.Goals as goal

pub returns : goal.returns
unfolding bounds_lawful
returns c = simp (both, either, c.size-l.ensures, c.size-u.ensures)
