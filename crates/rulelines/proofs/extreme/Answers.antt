-- `rulelines::extreme` meets its contract, by the side.
-- Assumes nothing.
use mir.Facts.{to_z-of_z}
use mir.Syntax.{w32}
use Rattle.extremes.specs.Terms.{extreme_of}
use Rattle.rulelines.proofs.extreme.Goals as goal

pub returns-in-AtLeast : goal.returns-in-AtLeast
unfolding extreme_of
returns-in-AtLeast c = rw (c.in-AtLeast.is, to_z-of_z {w = w32} (record { sfits = c.least.type_inv })) c.least.ensures

pub returns-in-AtMost : goal.returns-in-AtMost
unfolding extreme_of
returns-in-AtMost c = rw (c.in-AtMost.is, to_z-of_z {w = w32} (record { sfits = c.greatest.type_inv })) c.greatest.ensures
