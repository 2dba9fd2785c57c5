-- Laws of lists that the other files need: each by induction over the list.
use Prim.Native.Nat.{ℕ, zero, suc, ◌+◌, ◌≤◌, ◌<◌}
use mathlib.Core.Path.{◌≡◌, refl, sym, ap, ◌∙◌}
use mathlib.Core.Bool.{Bool, true}
use mathlib.Core.List.{List, [], ◌∷◌, ◌++◌, map}
use native.Mathlib.Omega.{arith}
use lib.ListN.{length, length-append, length-map}
use native.Mathlib.Nat.{zero-add, add-zero, add-suc, suc-add, add_assoc}
use Rattle.plpb.specs.Lists.{all, concat, sum_by, row}
use Rattle.format.proofs.Bools.{and_left, and_right, and_join}

pub sum_by_append : {A : Type 0} (f : A → ℕ) (xs ys : List A) → sum_by f (xs ++ ys) ≡ sum_by f xs + sum_by f ys
unfolding sum_by
sum_by_append f [] ys = sym (zero-add _)
sum_by_append f (x ∷ xs) ys = ap (λ n. f x + n) (sum_by_append f xs ys) ∙ sym (add_assoc _ _ _)

pub length_row : (i k : ℕ) → length (row i k) ≡ k
unfolding row
length_row i zero = refl
length_row i (suc k) = ap suc (length_row (suc i) k)

pub length_concat : {A B : Type 0} (h : A → List B) (xs : List A) → length (concat (map h xs)) ≡ sum_by (λ x. length (h x)) xs
unfolding concat sum_by
length_concat h [] = refl
length_concat h (x ∷ xs) = length-append (h x) (concat (map h xs)) ∙ ap (λ n. length (h x) + n) (length_concat h xs)

pub all_append : {A : Type 0} (p : A → Bool) (xs ys : List A) → all p xs ≡ true → all p ys ≡ true → all p (xs ++ ys) ≡ true
unfolding all
all_append p [] ys h k = k
all_append p (x ∷ xs) ys h k = and_join _ _ (and_left _ _ h) (all_append p xs ys (and_right _ _ h) k)

pub row_split : (i a b : ℕ) → row i (a + b) ≡ row i a ++ row (i + a) b
unfolding row
row_split i zero b = rw (zero-add b, add-zero i)
row_split i (suc a) b = rw (suc-add a b, add-suc i a, ← suc-add i a) (ap (λ r. i ∷ r) (row_split (suc i) a b))

pub all_row : {A : Type 0} (p : A → Bool) (h : ℕ → A) (i k : ℕ) → ((j : ℕ) → i ≤ j → j < i + k → p (h j) ≡ true) → all p (map h (row i k)) ≡ true
unfolding all row
all_row p h i zero e = refl
all_row p h i (suc k) e = and_join _ _ (e i (omega arith) (omega arith)) (all_row p h (suc i) k (λ j l u. e j (omega arith) (omega arith)))

pub length_spread : {A : Type 0} (h : ℕ → A) (i k : ℕ) → length (map h (row i k)) ≡ k
length_spread h i k = length-map (row i k) h ∙ length_row i k
