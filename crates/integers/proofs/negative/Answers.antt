-- `integers::negative` meets its contract: it is the smaller of the weight and 0.
-- Assumes nothing.
use mathlib.Core.Path.{ap, ◌∙◌}
use mir.Facts.{to_z-of_z}
use mir.Syntax.{w32}
use Rattle.plpb.specs.Plan.{negative_part}
use Rattle.integers.proofs.Sizes.{negative_least}
use Rattle.integers.proofs.negative.Goals as goal

pub returns : goal.returns
returns c =
    to_z-of_z {w = w32} (record { sfits = c.min.type_inv }) ∙ c.min.ensures.value ∙ negative_least _ ∙ ap negative_part (to_z-of_z c.ranges.weight)
