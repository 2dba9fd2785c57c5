-- `settled` meets its contract: the same three tests.
-- Assumes nothing.
use Rattle.format.proofs.Bools.{both}
use Rattle.exact.proofs.settled.Goals as goal

pub returns : goal.returns
returns c = simp (both, c.rank.ensures.0, c.rank-2.ensures.0, c.rank-3.ensures.0)
