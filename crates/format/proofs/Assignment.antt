-- A list whose first n bytes are 0 or 1 is the bytes of its n bits and a rest.
-- Assumes nothing.
use Prim.Native.Nat.{ℕ, zero, suc, ◌≤◌}
use native.Mathlib.Nat.{not-suc-le-zero, le_of_suc-le-suc}
use mathlib.Core.Path.{◌≡◌, refl, sym, ap, ap₂, ◌∙◌}
use mathlib.Core.Bool.{true, false, cond}
use mathlib.Core.List.{List, [], ◌∷◌, ◌++◌, map}
use lib.Dec.{T, leb, eqb, leb→le}
use lib.ListN.{length, take, drop, take-append-drop, length-map}
use lib.Seq.{length-take-le, take_at, drop_at}
use Rattle.plpb.specs.Lists.{◌and◌, all}
use Rattle.plpb.specs.Plan.{Assignment}
use Rattle.plpb.proofs.Lists.{and_left, and_right}
use Rattle.format.specs.Assignment.{bits_in, bits_of, bit_bytes, are_bits}

pub length_bit_bytes : (b : Assignment) → length (bit_bytes b) ≡ length b
unfolding bit_bytes
length_bit_bytes b = length-map b (λ v. cond v 1 0)

pub length_bits_of : (n : ℕ) (a : List ℕ) → n ≤ length a → length (bits_of n a) ≡ n
unfolding bits_of bits_in
length_bits_of n a h = length-map (take n a) (λ v. eqb v 1) ∙ length-take-le n a h

bits_back : (b : Assignment) → map (λ v. eqb v 1) (bit_bytes b) ≡ b
unfolding bit_bytes
bits_back [] = refl
bits_back (true ∷ b) = ap (λ c. true ∷ c) (bits_back b)
bits_back (false ∷ b) = ap (λ c. false ∷ c) (bits_back b)

all_bits : (b : Assignment) → T (all (λ v. leb v 1) (bit_bytes b))
unfolding bit_bytes all ◌and◌
all_bits [] = tt
all_bits (true ∷ b) = all_bits b
all_bits (false ∷ b) = all_bits b

byte_bit : (v : ℕ) → v ≤ 1 → cond (eqb v 1) 1 0 ≡ v
byte_bit zero h = refl
byte_bit (suc zero) h = refl
byte_bit (suc (suc v)) h = absurd (not-suc-le-zero (le_of_suc-le-suc h))

bytes_back : (bs : List ℕ) → T (all (λ v. leb v 1) bs) → bit_bytes (map (λ v. eqb v 1) bs) ≡ bs
unfolding bit_bytes all
bytes_back [] t = refl
bytes_back (v ∷ bs) t =
    ap₂ ◌∷◌ (byte_bit v (leb→le v 1 (and_left (leb v 1) (all (λ c. leb c 1) bs) t)))
    (bytes_back bs (and_right (leb v 1) (all (λ c. leb c 1) bs) t))

-- The bytes of n bits, with a rest behind them: their first n bytes are 0 or 1, and stand for those bits.
module _ (n : ℕ) (b : Assignment) (rest : List ℕ) (size : length b ≡ n) where
  pub take_bytes : take n (bit_bytes b ++ rest) ≡ bit_bytes b
  take_bytes = take_at (bit_bytes b) rest n (length_bit_bytes b ∙ size)

  pub drop_bytes : drop n (bit_bytes b ++ rest) ≡ rest
  drop_bytes = drop_at (bit_bytes b) rest n (length_bit_bytes b ∙ size)

  pub bits_of_bytes : bits_of n (bit_bytes b ++ rest) ≡ b
  unfolding bits_of bits_in
  bits_of_bytes = ap (map (λ v. eqb v 1)) take_bytes ∙ bits_back b

  pub are_bits_bytes : T (are_bits n (bit_bytes b ++ rest))
  unfolding are_bits
  are_bits_bytes = rw take_bytes (all_bits b)

-- Every list whose first n bytes are 0 or 1 is of this kind.
pub first_bytes : (n : ℕ) (a : List ℕ) → T (are_bits n a) → take n a ≡ bit_bytes (bits_of n a)
unfolding are_bits bits_of bits_in
first_bytes n a t = sym (bytes_back (take n a) t)

pub whole_bytes : (n : ℕ) (a : List ℕ) → T (are_bits n a) → a ≡ bit_bytes (bits_of n a) ++ drop n a
whole_bytes n a t = sym (take-append-drop n a) ∙ ap (λ bs. bs ++ drop n a) (first_bytes n a t)
