-- `total` meets its contract. The invariant: the sum is small, and the variables to come make up what is missing, whatever numbers the calls give.
-- Assumes nothing.
use Prim.Native.Nat.{ℕ, ◌*◌, ◌≤◌, ◌<◌}
use mathlib.Core.Path.{◌≡◌}
use lib.IntN.{ℤ, nat_abs}
use Rattle.costs.proofs.Coefficients.{Summed}
use Rattle.costs.proofs.total.Given as goal

abbrev pub invariant-loop-i : goal.invariant-loop-i
invariant-loop-i g l =
    (nat_abs l.sum ≤ 1_000_000 * l.i)
    × ((h : ℕ → ℤ) → ((i : ℕ) (r : ℤ) → i < l.n → goal.F-post g l.part i r → r ≡ h i) → Summed h l.n l.sum l.i)
