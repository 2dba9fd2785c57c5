-- Whether the line of a side has its signs changed, and whether a relation is `=`.
-- Assumes nothing.
use Rattle.std.specs.Prelude.{Bool, true, false}
use Rattle.constraints.specs.declared.Side.{Side}
use Rattle.constraints.specs.declared.Side.TheVariants.{AtLeast, AtMost}
use Rattle.constraints.specs.declared.Relation.{Relation}
use Rattle.constraints.specs.declared.Relation.TheVariants.{AtLeast as Reaches, Equal}

abbrev pub turns : Side → Bool
turns AtLeast = false
turns AtMost = true

abbrev pub is_exact : Relation → Bool
is_exact Reaches = false
is_exact Equal = true
