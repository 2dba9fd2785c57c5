-- Where a count stands, by its number; and what is given out of a number, in two words.
-- Assumes nothing.
use Prim.Native.Nat.{ℕ, suc, ◌≤◌, min}
use native.Mathlib.Decide.{dec_le}
use native.Mathlib.Omega.{arith}
use mathlib.Core.Bool.{cond}
use mathlib.Core.List.{[], ◌∷◌}
use mathlib.Core.Path.{◌≡◌, sym}
use lib.Dec.{ltb}
use borrow.Author.Tests.{lt-ltb, le-ltb}
use Rattle.plpb.specs.Count.{cap, given, capped}
use Rattle.plpb.proofs.Capped.{capped_small, capped_large, given_small}
use Rattle.counting.specs.declared.count.Count.{Count}
use Rattle.counting.specs.Count.{number, count_words}

-- A count stands where its number does once that is capped.
pub stands : (n : ℕ) → cond (ltb 4294967295 n) (suc cap) n ≡ capped n
unfolding cap
stands n = at (dec_le n cap)
  where
    at : Dec (n ≤ cap) → cond (ltb 4294967295 n) (suc cap) n ≡ capped n
    at (yes h) = rw (le-ltb 4294967295 n (omega arith)) (sym (capped_small n (omega arith)))
    at (no h) = rw (lt-ltb 4294967295 n (omega arith)) (sym (capped_large n (omega arith)))

pub number_capped : (c : Count) → number c ≡ capped c.n
number_capped c = stands c.n

-- It was cut where its number is above the cap.
pub cut_above : (n : ℕ) → ltb 4294967295 n ≡ ltb cap (cond (ltb 4294967295 n) (suc cap) n)
unfolding cap
cut_above n = at (dec_le n cap)
  where
    at : Dec (n ≤ cap) → ltb 4294967295 n ≡ ltb cap (cond (ltb 4294967295 n) (suc cap) n)
    at (yes h) = rw (le-ltb 4294967295 n (omega arith), le-ltb 4294967295 n (omega arith))
    at (no h) = rw (lt-ltb 4294967295 n (omega arith)) (sym (lt-ltb 4294967295 4294967296 (omega arith)))

-- What stops where 64 bits do is capped as the number itself.
pub stopped : (n : ℕ) {k : ℕ} → k ≡ min n 18446744073709551615 → capped k ≡ capped n
unfolding cap capped
stopped n e = omega (arith, e)

-- A number up to the cap is given out unmarked.
pub words_uncut : (n : ℕ) → n ≤ cap → n ∷ 0 ∷ [] ≡ count_words (given n)
unfolding count_words
words_uncut n h = rw (given_small n h)
