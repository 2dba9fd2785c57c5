-- `bounds::by_mode` meets its contract, by the mode.
-- Assumes nothing.
use mir.Facts.{to_z-of_z}
use Rattle.fates.proofs.Judging.{mode_bound}
use Rattle.fates.proofs.bounds.by_mode.Goals as goal

pub returns : goal.returns
returns c = (mode_bound 2 _ _ (rw (to_z-of_z c.ranges.lower) at c.then_some.ensures), mode_bound 1 _ _ (rw (to_z-of_z c.ranges.upper) at c.then_some-2.ensures))
