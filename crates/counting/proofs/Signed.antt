-- What the tightening's signed steps need: sums and doubles of small numbers fit 64 bits, and the library's quotient by 3 is a third rounded down.
-- Assumes nothing.
use Prim.Native.Nat.{ℕ, zero, suc, ◌+◌, ◌*◌, ◌-◌, ◌≤◌, ◌<◌}
use native.Mathlib.Nat.{le_refl}
use native.Mathlib.Omega.{arith}
use lib.Dec.{ltb}
use lib.IntN.{ℤ, pos, negsuc, nat_abs, neg_ℤ, sub_ℕ, ◌+ℤ◌, ◌*ℤ◌}
use mathlib.Core.Bool.{Bool, true, false, cond}
use mathlib.Core.Path.{◌≡◌, refl}
use mir.Facts.{to_z-of_z}
use mir.Syntax.{w64}
use mir.Val.{SFits, to_z, of_z}
use Rattle.std.specs.Int.{int_div_euclid}
use Rattle.plpb.specs.Search.{third}

-- A number that is small either way fits.
pub small_fits : (z : ℤ) → nat_abs z < 9223372036854775808 → SFits w64 z
small_fits (pos n) h = record { sfits = h }
small_fits (negsuc n) h = record { sfits = omega arith }

size_sub : (a b : ℕ) → nat_abs (sub_ℕ a (suc b)) ≤ a + suc b
size_sub a b = either (ltb a (suc b))
  where
    either : (t : Bool) → nat_abs (cond t (negsuc (suc b - suc a)) (pos (a - suc b))) ≤ a + suc b
    either true = omega arith
    either false = omega arith

-- The size of a sum is at most the sum of the sizes.
pub size_sum : (x y : ℤ) → nat_abs (x +ℤ y) ≤ nat_abs x + nat_abs y
size_sum (pos a) (pos b) = le_refl (a + b)
size_sum (pos a) (negsuc b) = size_sub a b
size_sum (negsuc a) (pos b) = omega (arith, size_sub b a)
size_sum (negsuc a) (negsuc b) = omega arith

size_negated : (n : ℕ) → nat_abs (neg_ℤ (pos n)) ≡ n
size_negated zero = refl
size_negated (suc n) = refl

pub size_double : (z : ℤ) → nat_abs (pos 2 *ℤ z) ≡ 2 * nat_abs z
size_double (pos n) = refl
size_double (negsuc n) = size_negated (2 * suc n)

-- What the machine reads of a signed number's bits.
abbrev pub read : ℤ → ℤ
read z = to_z w64 (of_z w64 z)

-- l + 2v as the machine adds it up.
module _ (l v : ℤ) (small : nat_abs l < 4294967296) (small' : nat_abs v < 4294967296) (f : SFits w64 l) (f' : SFits w64 v) where
  double_fits : SFits w64 (pos 2 *ℤ v)
  double_fits = small_fits (pos 2 *ℤ v) (omega (arith, size_double v))

  sum_fits : SFits w64 (l +ℤ pos 2 *ℤ v)
  sum_fits = small_fits (l +ℤ pos 2 *ℤ v) (omega (arith, size_double v, size_sum l (pos 2 *ℤ v)))

  pub sum_is : read l +ℤ read (pos 2 *ℤ read v) ≡ l +ℤ pos 2 *ℤ v
  sum_is = rw (to_z-of_z f, to_z-of_z f', to_z-of_z double_fits)

  pub sum_read_fits : SFits w64 (read l +ℤ read (pos 2 *ℤ read v))
  sum_read_fits = rw sum_is sum_fits

-- The library's quotient rounds down where the divisor is positive.
abbrev pub quotient_by_3 : ℤ → ℤ
quotient_by_3 a = int_div_euclid a (pos 3)

pub thirds : (a : ℤ) → quotient_by_3 a ≡ third a
unfolding third
thirds (pos n) = refl
thirds (negsuc n) = refl
