-- Signed 64-bit numbers: what stays of a quotient.
-- Assumes nothing.
use Prim.Native.Nat.{ℕ, zero, suc, ◌/◌, ◌^◌, ◌<◌, ◌≤◌}
use native.Mathlib.Nat.{div-le_self}
use native.Mathlib.Omega.{arith}
use mathlib.Core.Path.{◌≡◌, ap, ap₂, ◌∙◌}
use lib.IntN.{ℤ, pos, negsuc, neg_ℤ}
use lib.Signed.{quot_z}
use mir.Syntax.{w64}
use mir.Val.{SFits, to_z, of_z}
use mir.Facts.{to_z-of_z, to_z_pos}

-- A quotient is no larger than what is divided.
pub quotient_fits : (z : ℤ) (d : ℕ) → SFits w64 z → SFits w64 (quot_z z (pos d))
quotient_fits (pos n) d f = record { sfits = omega (arith, f.sfits, div-le_self n d) }
quotient_fits (negsuc n) d f = negative_fits (suc n / d) (omega (arith, f.sfits, div-le_self (suc n) d))
  where
    negative_fits : (t : ℕ) → t ≤ 2 ^ 63 → SFits w64 (neg_ℤ (pos t))
    negative_fits zero h = record { sfits = omega arith }
    negative_fits (suc t) h = record { sfits = omega arith }

-- The number divided by: it is positive, and held by 63 bits.
module _ (z : ℤ) (f : SFits w64 z) {d g : ℕ} (e : d ≡ g) (small : g < 2 ^ 63) where
  pub divisor_fits : SFits w64 (pos d)
  divisor_fits = record { sfits = omega arith }

  quotient : quot_z (to_z w64 (of_z w64 z)) (to_z w64 d) ≡ quot_z z (pos g)
  quotient = ap₂ quot_z (to_z-of_z f) (to_z_pos w64 (omega arith) ∙ ap pos e)

  pub quotient_held : SFits w64 (quot_z (to_z w64 (of_z w64 z)) (to_z w64 d))
  quotient_held = rw quotient (quotient_fits z g f)

  pub quotient_is : to_z w64 (of_z w64 (quot_z (to_z w64 (of_z w64 z)) (to_z w64 d))) ≡ quot_z z (pos g)
  quotient_is = rw quotient (to_z-of_z (quotient_fits z g f))
