-- The sizes of signed numbers, and their negative and positive parts.
-- Assumes nothing.
use Prim.Native.Nat.{zero, suc, ◌+◌, ◌≤◌, ◌<◌}
use native.Mathlib.Omega.{arith}
use mathlib.Core.Path.{◌≡◌, refl}
use lib.IntN.{ℤ, pos, negsuc, nat_abs, neg_ℤ, ◌-ℤ◌}
use mir.Syntax.{w32}
use mir.Val.{SFits}
use borrow.Author.Tests.{lt-ltb}
use Rattle.std.specs.Int.{int_min, int_max}
use Rattle.plpb.specs.Plan.{negative_part, positive_part}
use Rattle.counting.proofs.Signed.{size_sum}

-- The size of a difference.
pub size_negated : (y : ℤ) → nat_abs (neg_ℤ y) ≡ nat_abs y
size_negated (pos zero) = refl
size_negated (pos (suc n)) = refl
size_negated (negsuc n) = refl

pub size_less : (x y : ℤ) → nat_abs (x -ℤ y) ≤ nat_abs x + nat_abs y
size_less x y = omega (arith, size_sum x (neg_ℤ y), size_negated y)

-- A number that is small either way fits.
pub small_fits : (z : ℤ) → nat_abs z < 2_147_483_648 → SFits w32 z
small_fits (pos n) h = record { sfits = h }
small_fits (negsuc n) h = record { sfits = omega arith }

-- The smaller and the larger of a number and 0.
pub negative_least : (w : ℤ) → int_min w (pos 0) ≡ negative_part w
unfolding negative_part
negative_least (pos zero) = refl
negative_least (pos (suc n)) = rw (lt-ltb 0 (suc n) (omega arith)) refl
negative_least (negsuc n) = refl

pub positive_most : (w : ℤ) → int_max w (pos 0) ≡ positive_part w
unfolding positive_part
positive_most (pos zero) = refl
positive_most (pos (suc n)) = rw (lt-ltb 0 (suc n) (omega arith)) refl
positive_most (negsuc n) = refl
