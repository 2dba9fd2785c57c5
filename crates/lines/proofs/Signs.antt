-- Signed 64-bit numbers as the machine holds them: what the test `v < 0` tells.
-- Assumes nothing.
use Prim.Native.Nat.{ℕ, ◌^◌, ◌<◌}
use native.Mathlib.Omega.{arith}
use mathlib.Core.Path.{◌≡◌, refl, sym, ap, ◌∙◌, subst}
use mathlib.Core.Bool.{Bool, true, false}
use lib.Dec.{T}
use lib.IntN.{ℤ, pos, negsuc}
use lib.Signed.{lt_z}
use mir.Syntax.{w64}
use mir.Val.{SFits, to_z, of_z}
use mir.Facts.{to_z-of_z}
use borrow.Author.Tests.{le-ltb}

abbrev pub read : ℤ → ℤ
read z = to_z w64 (of_z w64 z)

abbrev pub Negative : ℤ → Type 0
Negative v = (n : ℕ) × (v ≡ negsuc n) × (n < 2 ^ 63)

abbrev pub Natural : ℤ → Type 0
Natural v = (n : ℕ) × (v ≡ pos n) × (n < 2 ^ 63)

negative_of : (v : ℤ) → SFits w64 v → lt_z v (pos 0) ≡ true → Negative v
negative_of (pos n) f e = let z : ◌≡◌ {A = Bool} true false = sym e ∙ le-ltb n 0 (omega arith) in absurd (subst (λ (b : Bool). T b) z tt)
negative_of (negsuc n) f e = (n, refl, f.sfits)

natural_of : (v : ℤ) → SFits w64 v → lt_z v (pos 0) ≡ false → Natural v
natural_of (pos n) f e = (n, refl, f.sfits)
natural_of (negsuc n) f e = absurd (subst (λ (b : Bool). T b) e tt)

module _ {v : ℤ} (f : SFits w64 v) where
  pub negative : lt_z (read v) (pos 0) ≡ true → Negative v
  negative e = negative_of v f (ap (λ (z : ℤ). lt_z z (pos 0)) (sym (to_z-of_z f)) ∙ e)

  pub natural : lt_z (read v) (pos 0) ≡ false → Natural v
  natural e = natural_of v f (ap (λ (z : ℤ). lt_z z (pos 0)) (sym (to_z-of_z f)) ∙ e)
