-- `integers::positive` meets its contract: it is the larger of the weight and 0.
-- Assumes nothing.
use mathlib.Core.Path.{ap, ◌∙◌}
use mir.Facts.{to_z-of_z}
use mir.Syntax.{w32}
use Rattle.plpb.specs.Plan.{positive_part}
use Rattle.integers.proofs.Sizes.{positive_most}
use Rattle.integers.proofs.positive.Goals as goal

pub returns : goal.returns
returns c =
    to_z-of_z {w = w32} (record { sfits = c.max.type_inv }) ∙ c.max.ensures.value ∙ positive_most _ ∙ ap positive_part (to_z-of_z c.ranges.weight)
