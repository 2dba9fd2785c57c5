-- What a weight gives to the greatest total.
-- Assumes nothing.
use mir.Syntax.{w32}
use mathlib.Core.Path.{◌∙◌, ap}
use mir.Facts.{to_z-of_z}
use Rattle.plpb.specs.Plan.{positive_part}
use Rattle.extremes.specs.Terms.{part_of}
use Rattle.extremes.proofs.sum.fn.Sum.greatest.total.Goals as goal

pub returns : goal.returns
unfolding part_of
returns c = to_z-of_z {w = w32} (record { sfits = c.positive.type_inv }) ∙ c.positive.ensures ∙ ap positive_part (to_z-of_z c.ranges.weight)
