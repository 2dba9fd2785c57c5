-- The digits of a number: one alone, or the last behind the others; and a number behind its sign.
-- Assumes nothing.
use Prim.Native.Nat.{ℕ, ◌+◌, ◌/◌, ◌%◌, ◌≤◌, ◌<◌}
use native.Mathlib.Omega.{arith}
use mathlib.Core.Path.{◌≡◌, refl, sym, ap, ◌∙◌}
use mathlib.Core.Bool.{true, false}
use mathlib.Core.List.{List, [], ◌∷◌, ◌++◌}
use lib.IntN.{ℤ, pos, negsuc, nat_abs}
use lib.ListN.{length}
use lib.Signed.{lt_z}
use borrow.Author.Tests.{ltb-true}
use Rattle.texts.specs.Texts.{text, digit, decimal, signed_decimal}
use Rattle.texts.proofs.Decimal.{decimal_small, decimal_large, length_large}
use Rattle.opb.specs.Spell.{coefficient}
use Rattle.spelling.specs.Overlay.{Puts, Room}
use Rattle.spelling.proofs.Puts.{puts_then, puts_same}

module _ (at n : ℕ) (room : Room at (decimal n)) where
  pub digit_room : n < 10 → at + 1 < 18_446_744_073_709_551_616
  digit_room h = let e : length (decimal n) ≡ 1 = ap length (decimal_small n h) in omega (arith, e, room)

  pub tenth_room : 10 ≤ n → Room at (decimal (n / 10))
  tenth_room h = omega (arith, room, length_large n h)

  pub last_room : {s t : List ℕ} {q : ℕ} → 10 ≤ n → Puts (decimal (n / 10)) at s t q → q + 1 < 18_446_744_073_709_551_616
  last_room h a = omega (arith, room, length_large n h, a.place)

pub one_digit : {at n b : ℕ} {s t : List ℕ} {r : ℕ} → n < 10 → b ≡ digit n → Puts (b ∷ []) at s t r → Puts (decimal n) at s t r
one_digit {n = n} h e a = puts_same (ap (λ x. x ∷ []) e ∙ sym (decimal_small n h)) a

pub last_digit :
    {at n b : ℕ} {s t u : List ℕ} {q r : ℕ} → 10 ≤ n → b ≡ digit (n % 10) → Puts (decimal (n / 10)) at s t q → Puts (b ∷ []) q t u r
    → Puts (decimal n) at s u r
last_digit {n = n} h e a b = puts_same (ap (λ x. decimal (n / 10) ++ (x ∷ [])) e ∙ sym (decimal_large n h)) (puts_then a b)

-- The sign's character, and the number behind it.
pub negative_coefficient : (v : ℤ) → lt_z v (pos 0) ≡ true → 45 ∷ decimal (nat_abs v) ≡ coefficient v
unfolding coefficient text
negative_coefficient (pos n) h = absurd (none n (ltb-true n 0 h))
  where
    none : (n : ℕ) → n < 0 → ⊥
    none n l = omega arith
negative_coefficient (negsuc n) h = refl

pub natural_coefficient : (v : ℤ) → lt_z v (pos 0) ≡ false → 43 ∷ decimal (nat_abs v) ≡ coefficient v
unfolding coefficient text
natural_coefficient (pos n) h = refl
natural_coefficient (negsuc n) h = absurd (let z : ◌≡◌ {A = ℕ} 0 1 = cc in omega arith)

pub negative_decimal : (v : ℤ) → lt_z v (pos 0) ≡ true → coefficient v ≡ signed_decimal v
unfolding coefficient signed_decimal text
negative_decimal (pos n) h = absurd (none n (ltb-true n 0 h))
  where
    none : (n : ℕ) → n < 0 → ⊥
    none n l = omega arith
negative_decimal (negsuc n) h = refl

pub natural_decimal : (v : ℤ) → lt_z v (pos 0) ≡ false → decimal (nat_abs v) ≡ signed_decimal v
unfolding signed_decimal
natural_decimal (pos n) h = refl
natural_decimal (negsuc n) h = absurd (let z : ◌≡◌ {A = ℕ} 0 1 = cc in omega arith)
