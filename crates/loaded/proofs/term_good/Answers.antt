-- `loaded::term_good` meets its contract: the same tests.
-- Assumes nothing.
use Rattle.format.proofs.Bools.{both}
use Rattle.loaded.proofs.term_good.Goals as goal

pub returns : goal.returns
returns c = simp (both, c.weight_good.ensures)
