-- What a Counts of the code says.
-- Assumes nothing.
use Rattle.std.specs.Prelude.{ℕ, ◌≡◌}
use Rattle.counting.specs.Count.{number}
use Rattle.exact.specs.declared.Counts.{Counts}

-- The two numbers that a Counts of the code says.
pub record CountsAre (spoils mends : ℕ) (r : Counts) : Type 0 where
  pub breaks : number r.breaks ≡ spoils
  pub makes : number r.makes ≡ mends
