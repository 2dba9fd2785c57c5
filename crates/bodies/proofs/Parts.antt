-- A part of a file has the terms and the entries of locks that stand there in the file.
-- Assumes nothing.
use Prim.Native.Nat.{ℕ, zero, suc, ◌+◌, ◌*◌, ◌≤◌}
use native.Mathlib.Omega.{arith}
use mathlib.Core.Path.{◌≡◌, refl, ap, ◌∙◌}
use mathlib.Core.Bool.{not}
use mathlib.Core.List.{List, ◌∷◌}
use lib.Dec.{leb, ltb}
use lib.ListN.{take, drop}
use Rattle.plpb.specs.Lists.{◌and◌}
use Rattle.words.specs.Words.{num_at, signed}
use Rattle.words.proofs.Words.{num_at_take, num_at_drop}
use Rattle.format.specs.File.{term_at, terms_at, refuse, entries_fault}

-- The part of m bytes from a place on.
module _ (s : List ℕ) (from m : ℕ) where
  part : List ℕ
  part = take m (drop from s)

  number : (k i j : ℕ) → i + k ≤ m → from + i ≡ j → num_at k part i ≡ num_at k s j
  unfolding part
  number k i j h e = num_at_take k m (drop from s) i h ∙ num_at_drop k from s i ∙ ap (num_at k s) e

  terms_along : (i j k : ℕ) → i + 6 * k ≤ m → from + i ≡ j → terms_at part i k ≡ terms_at s j k
  unfolding terms_at term_at
  terms_along i j zero h e = refl
  terms_along i j (suc k) h e =
      let x = number 2 i j (omega arith) e in
      let w = number 4 (i + 2) (j + 2) (omega arith) (omega arith) in
      let rest = terms_along (i + 6) (j + 6) k (omega arith) (omega arith) in
      λ p. record { variable = x p; weight = signed (w p) } ∷ rest p

  entries_along : (n v i j k : ℕ) → i + 3 * k ≤ m → from + i ≡ j → entries_fault n v part i k ≡ entries_fault n v s j k
  unfolding entries_fault
  entries_along n v i j zero h e = refl
  entries_along n v i j (suc k) h e =
      let x = number 2 i j (omega arith) e in
      let y = number 1 (i + 2) (j + 2) (omega arith) (omega arith) in
      let rest = entries_along n (num_at 2 part i) (i + 3) (j + 3) k (omega arith) (omega arith) ∙ ap (λ (z : ℕ). entries_fault n z s (j + 3) k) x in
      λ p. refuse (not (ltb v (x p) and leb (x p) n)) 5 (refuse (ltb 1 (y p)) 10 (rest p))

  pub terms_part : (k : ℕ) → 6 * k ≤ m → terms_at (take m (drop from s)) 0 k ≡ terms_at s from k
  unfolding part
  terms_part k h = terms_along 0 from k (omega arith) (omega arith)

  pub entries_part : (n k : ℕ) → 3 * k ≤ m → entries_fault n 0 (take m (drop from s)) 0 k ≡ entries_fault n 0 s from k
  unfolding part
  entries_part n k h = entries_along n 0 0 from k (omega arith) (omega arith)
