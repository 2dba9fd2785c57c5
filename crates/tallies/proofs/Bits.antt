-- A list whose first n bytes are 0 or 1 is the bytes of its n bits and a rest, so that turning over a byte turns over its bit and nothing else.
use Prim.Native.Nat.{ℕ, zero, suc, ◌-◌, ◌≤◌, ◌<◌}
use native.Mathlib.Nat.{not-suc-le-zero, le_of_suc-le-suc}
use mathlib.Core.Path.{◌≡◌, refl, ap, ◌∙◌}
use mathlib.Core.Bool.{Bool, true, false, not, cond}
use mathlib.Core.List.{List, [], ◌∷◌, ◌++◌}
use lib.Dec.{T}
use lib.ListN.{length, get_or, set, drop, length-set}
use Rattle.plpb.specs.Plan.{Assignment, flip}
use Rattle.plpb.proofs.Flip.{length_flip}
pub use Rattle.format.proofs.Assignment.{length_bit_bytes, length_bits_of, take_bytes, drop_bytes, bits_of_bytes, are_bits_bytes, first_bytes, whole_bytes}
use Rattle.tallies.specs.Layout.{bits_of, bit_bytes, are_bits}
use Rattle.tallies.specs.Calls.{turned}

-- ---- turning over

byte_turned : (v : Bool) → 1 - cond v 1 0 ≡ cond (not v) 1 0
byte_turned true = refl
byte_turned false = refl

set_bytes : (b : Assignment) (rest : List ℕ) (i : ℕ) → i < length b → set (bit_bytes b ++ rest) i (1 - get_or (bit_bytes b ++ rest) i 0) ≡ bit_bytes (set b i (not (get_or b i false))) ++ rest
unfolding bit_bytes
set_bytes [] rest i h = absurd (not-suc-le-zero h)
set_bytes (v ∷ b) rest zero h = ap (λ c. c ∷ (bit_bytes b ++ rest)) (byte_turned v)
set_bytes (v ∷ b) rest (suc i) h = ap (λ cs. cond v 1 0 ∷ cs) (set_bytes b rest i (le_of_suc-le-suc h))

pub turned_bytes : (b : Assignment) (rest : List ℕ) (x : ℕ) → 1 ≤ x → x ≤ length b → turned (bit_bytes b ++ rest) x ≡ bit_bytes (flip b x) ++ rest
unfolding turned flip
turned_bytes b rest zero h k = absurd (not-suc-le-zero h)
turned_bytes b rest (suc i) h k = set_bytes b rest i k

pub length_turned : (a : List ℕ) (x : ℕ) → length (turned a x) ≡ length a
unfolding turned
length_turned a zero = refl
length_turned a (suc i) = length-set a i (1 - get_or a i 0)

-- A variable of an assignment that is lent.
module _ (n : ℕ) (a : List ℕ) (x : ℕ) (bits : T (are_bits n a)) (room : n ≤ length a) (low : 1 ≤ x) (high : x ≤ n) where
  size_turned : length (flip (bits_of n a) x) ≡ n
  size_turned = length_flip (bits_of n a) x ∙ length_bits_of n a room

  pub whole_turned : turned a x ≡ bit_bytes (flip (bits_of n a) x) ++ drop n a
  whole_turned =
      ap (λ bs. turned bs x) (whole_bytes n a bits)
      ∙ turned_bytes (bits_of n a) (drop n a) x low (rw (length_bits_of n a room) high)

  pub turned_bits : bits_of n (turned a x) ≡ flip (bits_of n a) x
  turned_bits = ap (bits_of n) whole_turned ∙ bits_of_bytes n (flip (bits_of n a) x) (drop n a) size_turned

  pub turned_are_bits : T (are_bits n (turned a x))
  turned_are_bits = rw whole_turned (are_bits_bytes n (flip (bits_of n a) x) (drop n a) size_turned)

  pub turned_beyond : drop n (turned a x) ≡ drop n a
  turned_beyond = ap (drop n) whole_turned ∙ drop_bytes n (flip (bits_of n a) x) (drop n a) size_turned
