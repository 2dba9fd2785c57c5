-- Signed 32-bit numbers as the machine holds them, by their bits.
-- Assumes nothing.
use Prim.Native.Nat.{ℕ, suc, ◌-◌}
use native.Mathlib.Omega.{arith}
use mathlib.Core.Path.{◌≡◌, refl, ap}
use mathlib.Core.Bool.{Bool, true, false, cond}
use lib.Dec.{ltb}
use lib.IntN.{ℤ, pos, negsuc}
use mir.Syntax.{w32}
use mir.Val.{to_z, of_z, sel}
use Rattle.words.specs.Words.{signed, unsigned}

-- The bits of a word and of a signed number.
pub signed_bits : (n : ℕ) → to_z w32 n ≡ signed n
unfolding signed
signed_bits n = by (ltb n 2_147_483_648)
  where
    by : (b : Bool) → sel b (pos n) (negsuc (4_294_967_296 - suc n)) ≡ cond b (pos n) (negsuc (4_294_967_295 - n))
    by true = refl
    by false = ap negsuc (omega arith)

pub unsigned_bits : (v : ℤ) → of_z w32 v ≡ unsigned v
unfolding unsigned
unsigned_bits (pos n) = refl
unsigned_bits (negsuc n) = omega arith
