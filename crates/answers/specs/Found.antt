-- Which endings come with a plan.
-- Assumes nothing.
use Rattle.std.specs.Prelude.{ℕ, Bool, eqb}
use Rattle.plpb.specs.Lists.{◌or◌}

-- Whether an ending, by its number, comes with a plan.
unfoldable pub has_plan : ℕ → Bool
has_plan e = eqb e 1 or eqb e 2 or eqb e 4
