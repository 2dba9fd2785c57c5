-- A function on places spells a list from a place on: by induction over the list, so that sections of a table can be taken apart and put together.
use Prim.Native.Nat.{ℕ, zero, suc, ◌+◌, ◌-◌, ◌≤◌, ◌<◌}
use mathlib.Core.Path.{◌≡◌, refl, ap₂}
use mathlib.Core.Bool.{true}
use mathlib.Core.List.{List, [], ◌∷◌, ◌++◌, map}
use native.Mathlib.Nat.{add-zero, add-suc, suc-add}
use native.Mathlib.Omega.{arith}
use lib.ListN.{length, get_or, replicate, length-append, length-replicate}
use borrow.Author.Tests.{eqb-true, eq-eqb}
use Rattle.plpb.specs.Lists.{row}
use Rattle.format.specs.Tables.{pad_to, pad_with}
use Rattle.format.proofs.Bools.{and_left, and_right, and_join}
use Rattle.format.specs.Good.{every_from, zeros_from}

unfoldable pub Spells : {A : Type 0} → (ℕ → A) → ℕ → List A → Type 0
Spells f i [] = Unit {0}
Spells f i (w ∷ ws) = (f i ≡ w) × Spells f (suc i) ws

module _ {A : Type 0} (f : ℕ → A) where
  -- Element by element.
  pub spells_at : (i : ℕ) (ws : List A) → Spells f i ws → (d : A) (j : ℕ) → j < length ws → f (i + j) ≡ get_or ws j d
  unfolding Spells
  spells_at i [] s d j h = absurd (omega arith)
  spells_at i (w ∷ ws) s d zero h = rw (add-zero i) s.0
  spells_at i (w ∷ ws) s d (suc j) h = rw (add-suc i j, ← suc-add i j) (spells_at (suc i) ws s.1 d j (omega arith))

  pub spells_all : (i : ℕ) (ws : List A) (d : A) → ((j : ℕ) → j < length ws → f (i + j) ≡ get_or ws j d) → Spells f i ws
  unfolding Spells
  spells_all i [] d h = tt
  spells_all i (w ∷ ws) d h =
      (rw (add-zero i) at (h 0 (omega arith)), spells_all (suc i) ws d (λ j l. rw (suc-add i j, ← add-suc i j) (h (suc j) (omega arith))))

  -- What it spells is what it gives at numbers in a row.
  pub spells_map : (i : ℕ) (ws : List A) → Spells f i ws → map f (row i (length ws)) ≡ ws
  unfolding Spells row
  spells_map i [] s = refl
  spells_map i (w ∷ ws) s = ap₂ (λ a b. a ∷ b) s.0 (spells_map (suc i) ws s.1)

  -- One list behind another.
  pub spells_left : (i : ℕ) (xs ys : List A) → Spells f i (xs ++ ys) → Spells f i xs
  unfolding Spells
  spells_left i [] ys s = tt
  spells_left i (x ∷ xs) ys s = (s.0, spells_left (suc i) xs ys s.1)

  pub spells_right : (i : ℕ) (xs ys : List A) → Spells f i (xs ++ ys) → Spells f (i + length xs) ys
  unfolding Spells
  spells_right i [] ys s = rw (add-zero i) s
  spells_right i (x ∷ xs) ys s = rw (add-suc i (length xs), ← suc-add i (length xs)) (spells_right (suc i) xs ys s.1)

  pub spells_join : (i : ℕ) (xs ys : List A) → Spells f i xs → Spells f (i + length xs) ys → Spells f i (xs ++ ys)
  unfolding Spells
  spells_join i [] ys s t = rw add-zero at t
  spells_join i (x ∷ xs) ys s t = (s.0, spells_join (suc i) xs ys s.1 (rw (suc-add i (length xs), ← add-suc i (length xs)) t))

module _ (f : ℕ → ℕ) where
  -- Zeros.
  pub spells_zeros : (i k : ℕ) → Spells f i (replicate k 0) → zeros_from f i k ≡ true
  unfolding Spells zeros_from every_from
  spells_zeros i zero s = refl
  spells_zeros i (suc k) s = and_join _ _ (eq-eqb _ _ s.0) (spells_zeros (suc i) k s.1)

  pub zeros_spell : (i k : ℕ) → zeros_from f i k ≡ true → Spells f i (replicate k 0)
  unfolding Spells zeros_from every_from
  zeros_spell i zero h = tt
  zeros_spell i (suc k) h = (eqb-true _ _ (and_left _ _ h), zeros_spell (suc i) k (and_right _ _ h))

  -- A function of numbers in a row.
  pub spells_row : (h : ℕ → ℕ) (i x k : ℕ) → Spells f i (map h (row x k)) → (j : ℕ) → j < k → f (i + j) ≡ h (x + j)
  unfolding Spells row
  spells_row h i x zero s j l = absurd (omega arith)
  spells_row h i x (suc k) s zero l = rw (add-zero i, add-zero x) s.0
  spells_row h i x (suc k) s (suc j) l = rw (add-suc i j, ← suc-add i j, add-suc x j, ← suc-add x j) (spells_row h (suc i) (suc x) k s.1 j (omega arith))

  pub row_spells : (h : ℕ → ℕ) (i x k : ℕ) → ((j : ℕ) → j < k → f (i + j) ≡ h (x + j)) → Spells f i (map h (row x k))
  unfolding Spells row
  row_spells h i x zero e = tt
  row_spells h i x (suc k) e =
      (rw (add-zero i, add-zero x) at (e 0 (omega arith)), row_spells h (suc i) (suc x) k (λ j l. rw (suc-add i j, ← add-suc i j, suc-add x j, ← add-suc x j) (e (suc j) (omega arith))))

-- A padded section.
pub length_pad_with : {A : Type 0} (u : A) (k : ℕ) (xs : List A) → length xs ≤ k → length (pad_with u k xs) ≡ k
unfolding pad_with
length_pad_with u k xs h = omega (arith, length-append xs (replicate (k - length xs) u), length-replicate (k - length xs) u)

pub length_pad_to : (k : ℕ) (ws : List ℕ) → length ws ≤ k → length (pad_to k ws) ≡ k
length_pad_to k ws h = length_pad_with 0 k ws h
