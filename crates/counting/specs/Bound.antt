-- The bound of plpb that a bound of the code stands for: None is an absent one.
-- Assumes nothing.
use Rattle.std.specs.Prelude.{Option, None, Some}
use Rattle.plpb.specs.Plan.{absent, present}
use Rattle.plpb.specs.Plan.{Bound as BoundOf}

abbrev pub bound_of : {A : Type 0} → Option A → BoundOf A
bound_of None = absent
bound_of (Some k) = present k
