-- What the planner sets (document 01, "Who can cause which refusal" and "The walk"; document 02, T-09).
-- Assumes nothing.
use Rattle.std.specs.Prelude.{ℕ}

-- "mode other than 0 (linear) or 1 (LBS)" is refused.
pub data Mode : Type 0 where
  linear : Mode
  lbs : Mode

-- How a variable is chosen: "a heuristic byte (0 SKC, 1 this)", Novelty+ (T-09).
pub data Heuristic : Type 0 where
  skc : Heuristic
  novelty : Heuristic

-- Noise in thousandths; how many tries a call may make; how many flips a try may make; how the bound is tightened; how a variable is chosen; Novelty+'s
-- walk chance in thousandths.
pub record Settings : Type 0 where
  pub noise : ℕ
  pub tries : ℕ
  pub flips : ℕ
  pub mode : Mode
  pub heuristic : Heuristic
  pub chance : ℕ
