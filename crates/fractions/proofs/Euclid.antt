-- Euclid's algorithm gives the greatest common divisor, however many steps more than the divisor counts are allowed.
-- Assumes nothing.
use Prim.Native.Nat.{ℕ, zero, suc, ◌%◌, ◌≤◌, ◌<◌}
use native.Mathlib.Nat.{mod-lt, dvd_refl, dvd-zero, dvd-mod_iff, pos_of_dvd_of_pos, le_of_dvd}
use native.Mathlib.Omega.{arith}
use mathlib.Core.Path.{◌≡◌, refl}
use Rattle.fractions.specs.Fractions.{euclid, gcd, Greatest}

-- What a step leaves is below the divisor.
left_below : (a b : ℕ) → a % suc b ≤ b
left_below a b = omega (arith, mod-lt a {m = suc b} (omega arith))

-- ---- steps enough

enough : (k m a b : ℕ) → b ≤ k → b ≤ m → euclid k a b ≡ euclid m a b
unfolding euclid
enough zero zero a b h l = refl
enough zero (suc m) a zero h l = refl
enough zero (suc m) a (suc b) h l = absurd (omega arith)
enough (suc k) zero a zero h l = refl
enough (suc k) zero a (suc b) h l = absurd (omega arith)
enough (suc k) (suc m) a zero h l = refl
enough (suc k) (suc m) a (suc b) h l = enough k m (suc b) (a % suc b) (omega (arith, left_below a b)) (omega (arith, left_below a b))

-- One step, and none.
pub gcd_step : (a b : ℕ) → 0 < b → gcd a b ≡ gcd b (a % b)
unfolding gcd euclid
gcd_step a zero h = absurd (omega arith)
gcd_step a (suc b) h = enough b (a % suc b) (suc b) (a % suc b) (left_below a b) (omega arith)

pub gcd_done : (a b : ℕ) → b ≤ 0 → gcd a b ≡ a
unfolding gcd euclid
gcd_done a zero h = refl
gcd_done a (suc b) h = absurd (omega arith)

-- ---- what it comes to

euclid_greatest : (k a b : ℕ) → b ≤ k → Greatest a b (euclid k a b)
unfolding euclid
euclid_greatest zero a zero h = record { first = dvd_refl a; second = dvd-zero a; greatest = λ d p q. p }
euclid_greatest zero a (suc b) h = absurd (omega arith)
euclid_greatest (suc k) a zero h = record { first = dvd_refl a; second = dvd-zero a; greatest = λ d p q. p }
euclid_greatest (suc k) a (suc b) h =
    let g = euclid_greatest k (suc b) (a % suc b) (omega (arith, left_below a b)) in
    record {
      first = (dvd-mod_iff _ g.first).0 g.second;
      second = g.first;
      greatest = λ d p q. g.greatest d q ((dvd-mod_iff d q).1 p);
    }

pub gcd_greatest : (a b : ℕ) → Greatest a b (gcd a b)
unfolding gcd
gcd_greatest a b = euclid_greatest b a b (omega arith)

pub gcd_positive : (a b : ℕ) → 0 < b → 0 < gcd a b
gcd_positive a b h = pos_of_dvd_of_pos (gcd_greatest a b).second h

pub gcd_small : (a b : ℕ) → 0 < b → gcd a b ≤ b
gcd_small a b h = le_of_dvd h (gcd_greatest a b).second
