-- Divided by their greatest common divisor, two numbers keep their quotient, and no number but 1 divides both.
-- Assumes nothing.
use Prim.Native.Nat.{ℕ, zero, suc, ◌*◌, ◌/◌, ◌<◌, ◌∣◌}
use native.Mathlib.Nat.{mul_assoc, mul-one, zero-mul, mul-div_cancel', div-mul_cancel, mul-dvd-mul_left, dvd_of_mul-dvd-mul_left, eq-one_of_dvd-one}
use native.Mathlib.Omega.{arith}
use mathlib.Core.Path.{◌≡◌, refl, sym, ap, ◌∙◌, subst}
use lib.IntN.{pos, negsuc, nat_abs, neg_ℤ, ◌*ℤ◌, negsuc-*ℤ-pos}
use Rattle.fractions.specs.Fractions.{gcd, reduced, reduced_z, Lowest, ReducesAll, ReducesAllZ}
use Rattle.fractions.proofs.Euclid.{gcd_greatest, gcd_positive}

-- a and b are g times what is left of them.
module _ (a b : ℕ) (h : 0 < b) where
  whole_top : gcd a b * (a / gcd a b) ≡ a
  whole_top = mul-div_cancel' _ (gcd_greatest a b).first

  whole_bottom : gcd a b * (b / gcd a b) ≡ b
  whole_bottom = mul-div_cancel' _ (gcd_greatest a b).second

  value_kept : a / gcd a b * b ≡ a * (b / gcd a b)
  value_kept =
      ap (λ n. a / gcd a b * n) (sym whole_bottom)
      ∙ sym (mul_assoc (a / gcd a b) (gcd a b) (b / gcd a b))
      ∙ ap (λ n. n * (b / gcd a b)) (div-mul_cancel _ (gcd_greatest a b).first)

  bottom_positive : 0 < b / gcd a b
  bottom_positive = positive_part_lem (gcd a b) (b / gcd a b) whole_bottom
    where
      positive_part_lem : (g n : ℕ) → g * n ≡ b → 0 < n
      positive_part_lem g zero e = absurd (omega (arith, h, e))
      positive_part_lem g (suc n) e = omega arith

  nothing_left : Lowest (a / gcd a b) (b / gcd a b)
  nothing_left d p q =
      let g = gcd a b in
      let both : g * d ∣ g = (gcd_greatest a b).greatest (g * d)
      (subst (λ n. g * d ∣ n) whole_top (mul-dvd-mul_left d g p))
      (subst (λ n. g * d ∣ n) whole_bottom (mul-dvd-mul_left d g q)) in
      eq-one_of_dvd-one (dvd_of_mul-dvd-mul_left d (gcd_positive a b h) (subst (λ n. g * d ∣ n) (sym (mul-one g)) both))

pub reduces : ReducesAll
unfolding reduced
reduces a b h = record { value = value_kept a b h; positive = bottom_positive a b h; lowest = nothing_left a b h }

-- ---- with a sign

size_negative : (t : ℕ) → nat_abs (neg_ℤ (pos t)) ≡ t
size_negative zero = refl
size_negative (suc t) = refl

negative_times : (t b : ℕ) → neg_ℤ (pos t) *ℤ pos b ≡ neg_ℤ (pos (t * b))
negative_times zero b = rw (zero-mul b)
negative_times (suc t) b = negsuc-*ℤ-pos t b

pub reduces_z : ReducesAllZ
unfolding reduced_z
reduces_z (pos n) b h = record { value = ap pos (value_kept n b h); positive = bottom_positive n b h; lowest = nothing_left n b h }
reduces_z (negsuc n) b h =
    record {
      value = negative_times (suc n / gcd (suc n) b) b ∙ ap (λ k. neg_ℤ (pos k)) (value_kept (suc n) b h) ∙ sym (negsuc-*ℤ-pos n (b / gcd (suc n) b));
      positive = bottom_positive (suc n) b h;
      lowest = subst (λ t. Lowest t (b / gcd (suc n) b)) (sym (size_negative (suc n / gcd (suc n) b))) (nothing_left (suc n) b h);
    }
