-- What a choice answers, as the walk has it, and what a pick needs.
-- Assumes nothing.
use Rattle.std.specs.Prelude.{ℕ, ◌+◌, ◌/◌, ◌≤◌, ◌<◌, ◌≡◌, Bool, List, leb, length, Result, Ok, Err}
use Rattle.plpb.specs.Lists.{◌and◌}
use Rattle.plpb.specs.Plan.{Assignment}
use Rattle.plpb.specs.Walk.{Walk, at, Outcome, ends, short, run}
use Rattle.columns.specs.Layout.{column_size, column_word_count}
use Rattle.numbers.specs.declared.Short.{Short}
use Rattle.numbers.specs.declared.Drawn.{Drawn}

-- A variable that is chosen, and how many numbers are used after the choice.
abbrev pub Chosen : Type 0
Chosen = Drawn ℕ

-- The outcome that an answer of the code says, with the flips and finds before it.
unfoldable pub outcome_of : Result Chosen Short → ℕ → List Assignment → Outcome ℕ
outcome_of (Ok c) f fs = ends c.value (at c.used f fs)
outcome_of (Err e) f fs = short (at e.used f fs)

unfoldable pub used_by : Result Chosen Short → ℕ
used_by (Ok c) = c.used
used_by (Err e) = e.used

-- A variable that is chosen is one of n.
unfoldable pub Among : ℕ → Result Chosen Short → Type 0
Among n (Ok c) = (1 ≤ c.value) × (c.value ≤ n)
Among n (Err e) = Unit {0}

-- A walk comes to this answer, whatever flips and finds were made before it.
pub record Chooses (w : Walk ℕ) (ns : List ℕ) (used n : ℕ) (r : Result Chosen Short) : Type 0 where
  pub outcome : (f : ℕ) (fs : List Assignment) → run w ns (at used f fs) ≡ outcome_of r f fs
  pub among : Among n r
  pub uses : used ≤ used_by r
  pub within : used_by r ≤ length ns

-- A number is that of one of n variables.
unfoldable pub is_one : ℕ → ℕ → Bool
is_one n x = leb 1 x and leb x n

-- What a pick among m listed variables needs.
pub record PickListed (numbers : List ℕ) (used : ℕ) (marks : List ℕ) (at m : ℕ) : Type 0 where
  pub some : 0 < m
  pub few : m ≤ 512
  pub inside : at + m ≤ column_word_count
  pub room : column_size ≤ length marks
  pub listed : used ≤ length numbers / 4
