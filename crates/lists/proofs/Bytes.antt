-- The test whether two lists of bytes are the same.
-- Assumes nothing.
use Prim.Native.Nat.{ℕ}
use mathlib.Core.Path.{◌≡◌, refl, sym, ap₂}
use mathlib.Core.Bool.{true, true≢false}
use mathlib.Core.List.{List, [], ◌∷◌}
use borrow.Author.Tests.{eqb-true, eq-eqb}
use Rattle.format.proofs.Bools.{and_left, and_right, and_join, same_test}
use Rattle.cells.specs.Grammar.{same_bytes}

pub same_eq : (v w : List ℕ) → same_bytes v w ≡ true → v ≡ w
unfolding same_bytes
same_eq [] [] h = refl
same_eq [] (c ∷ cs) h = absurd (true≢false (sym h))
same_eq (b ∷ bs) [] h = absurd (true≢false (sym h))
same_eq (b ∷ bs) (c ∷ cs) h = ap₂ (λ (x : ℕ) (xs : List ℕ). x ∷ xs) (eqb-true b c (and_left _ _ h)) (same_eq bs cs (and_right _ _ h))

pub same_refl : (v : List ℕ) → same_bytes v v ≡ true
unfolding same_bytes
same_refl [] = refl
same_refl (b ∷ bs) = and_join _ _ (eq-eqb b b refl) (same_refl bs)

pub eq_same : (v w : List ℕ) → v ≡ w → same_bytes v w ≡ true
eq_same v w e = rw e (same_refl w)

pub same_comm : (v w : List ℕ) → same_bytes v w ≡ same_bytes w v
same_comm v w = same_test _ _ (λ h. eq_same w v (sym (same_eq v w h))) (λ h. eq_same v w (sym (same_eq w v h)))
