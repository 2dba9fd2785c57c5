-- "Report as fractions in lowest terms with positive denominator" (document 02, T-11): a fraction is divided, top and bottom, by their greatest
-- common divisor.
-- Assumes nothing.
use Rattle.std.specs.Prelude.{ℕ, zero, suc, ◌*◌, ◌/◌, ◌%◌, ◌<◌, ◌≡◌, ℤ, pos, nat_abs, ◌*ℤ◌}
use Rattle.std.specs.Int.{◌∣◌}
use Rattle.std.specs.Int.Signed.{quot_z}
use Rattle.fractions.specs.declared.Fraction.{Fraction}
use Rattle.fractions.specs.declared.SignedFraction.{SignedFraction}

-- Euclid's algorithm: the remainder takes the divisor's place, until there is none. At most so many steps.
unfoldable pub euclid : ℕ → ℕ → ℕ → ℕ
euclid zero a b = a
euclid (suc left) a zero = a
euclid (suc left) a (suc b) = euclid left (suc b) (a % suc b)

-- Each step makes the divisor smaller, so there are no more steps than it counts.
unfoldable pub gcd : ℕ → ℕ → ℕ
gcd a b = euclid b a b

unfoldable pub reduced : ℕ → ℕ → Fraction
reduced a b = record { top = a / gcd a b; bottom = b / gcd a b }

-- The sign stays on top.
unfoldable pub reduced_z : ℤ → ℕ → SignedFraction
reduced_z a b = record { top = quot_z a (pos (gcd (nat_abs a) b)); bottom = b / gcd (nat_abs a) b }

-- The greatest common divisor divides both, and each common divisor divides it.
pub record Greatest (a b g : ℕ) : Type 0 where
  pub first : g ∣ a
  pub second : g ∣ b
  pub greatest : (d : ℕ) → d ∣ a → d ∣ b → d ∣ g

-- No number but 1 divides both.
abbrev pub Lowest : ℕ → ℕ → Type 0
Lowest a b = (d : ℕ) → d ∣ a → d ∣ b → d ≡ 1

-- What a fraction in lowest terms is: the same value, the denominator positive, and nothing to divide by.
pub record Reduced (a b : ℕ) (f : Fraction) : Type 0 where
  pub value : f.top * b ≡ a * f.bottom
  pub positive : 0 < f.bottom
  pub lowest : Lowest f.top f.bottom

pub record ReducedZ (a : ℤ) (b : ℕ) (f : SignedFraction) : Type 0 where
  pub value : f.top *ℤ pos b ≡ a *ℤ pos f.bottom
  pub positive : 0 < f.bottom
  pub lowest : Lowest (nat_abs f.top) f.bottom

abbrev pub ReducesAll : Type 0
ReducesAll = (a b : ℕ) → 0 < b → Reduced a b (reduced a b)

abbrev pub ReducesAllZ : Type 0
ReducesAllZ = (a : ℤ) (b : ℕ) → 0 < b → ReducedZ a b (reduced_z a b)
