-- What a weight gives to the least total.
-- Assumes nothing.
use mir.Syntax.{w32}
use mathlib.Core.Path.{◌∙◌, ap}
use mir.Facts.{to_z-of_z}
use Rattle.plpb.specs.Plan.{negative_part}
use Rattle.extremes.specs.Terms.{part_of}
use Rattle.extremes.proofs.sum.fn.Sum.least.total.Goals as goal

pub returns : goal.returns
unfolding part_of
returns c = to_z-of_z {w = w32} (record { sfits = c.negative.type_inv }) ∙ c.negative.ensures ∙ ap negative_part (to_z-of_z c.ranges.weight)
