-- Bytes put into a list from a place on, as far as it goes.
-- Assumes nothing.
use Rattle.std.specs.Prelude.{ℕ, zero, suc, ◌+◌, ◌<◌, ◌≡◌, List, [], ◌∷◌, length}

-- Bytes written over those of a list from a place on. What would stand past its end is left out.
unfoldable pub overlay : ℕ → List ℕ → List ℕ → List ℕ
overlay at bs [] = []
overlay zero [] (x ∷ s) = x ∷ s
overlay zero (b ∷ bs) (x ∷ s) = b ∷ overlay zero bs s
overlay (suc at) bs (x ∷ s) = x ∷ overlay at bs s

-- Bytes were put at a place of a list s: this is what is left, and the place behind them, which is answered.
pub record Puts (bs : List ℕ) (at : ℕ) (s t : List ℕ) (r : ℕ) : Type 0 where
  pub bytes : t ≡ overlay at bs s
  pub place : r ≡ at + length bs

-- The place behind the bytes is a number of 64 bits.
abbrev pub Room : ℕ → List ℕ → Type 0
Room at bs = at + length bs < 18_446_744_073_709_551_616
