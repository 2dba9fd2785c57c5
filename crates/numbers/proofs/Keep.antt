-- Laws of the elements that pass a test: which is the k-th, by its index. Each by induction on the list or the row.
-- Assumes nothing.
use Prim.Native.Nat.{ℕ, zero, suc, ◌+◌, ◌≤◌, ◌<◌}
use native.Mathlib.Nat.{not-suc-le-zero, le_of_suc-le-suc}
use native.Mathlib.Omega.{arith}
use mathlib.Core.Path.{◌≡◌, refl, sym, ap, ap₂, ◌∙◌}
use mathlib.Core.Bool.{Bool, true, false, cond}
use mathlib.Core.List.{List, [], ◌∷◌, map}
use lib.Dec.{T, ltb, lt→ltb, ltb→lt}
use lib.ListN.{length, get_or, length-map}
use Rattle.plpb.specs.Lists.{◌and◌, keep, count, all, row}
use Rattle.plpb.proofs.Lists.{true_and, false_and, and_left, and_right, and_both, all_still, all_at}

-- ---- elements that pass

module _ {A : Type 0} where
  -- Two tests that agree on elements that pass a third.
  pub keep_each : (t p q : A → Bool) (xs : List A) → ((x : A) → T (t x) → p x ≡ q x) → T (all t xs) → keep p xs ≡ keep q xs
  unfolding keep all
  keep_each t p q [] h e = refl
  keep_each t p q (x ∷ xs) h e =
      ap₂ (λ b ys. cond b (x ∷ ys) ys) (h x (and_left (t x) (all t xs) e)) (keep_each t p q xs h (and_right (t x) (all t xs) e))

  -- One test after another is both.
  pub keep_keep : (p q : A → Bool) (xs : List A) → keep p (keep q xs) ≡ keep (λ x. q x and p x) xs
  unfolding keep
  keep_keep p q [] = refl
  keep_keep p q (x ∷ xs) = kept (q x) (keep_keep p q xs)
    where
      kept : (b : Bool) → keep p (keep q xs) ≡ keep (λ y. q y and p y) xs
          → keep p (cond b (x ∷ keep q xs) (keep q xs)) ≡ cond (b and p x) (x ∷ keep (λ y. q y and p y) xs) (keep (λ y. q y and p y) xs)
      kept true e = rw (true_and, ← e)
      kept false e = rw false_and e

module _ {A B : Type 0} where
  keep_mapped : (b : Bool) (f : A → B) (x : A) (xs : List A) → cond b (f x ∷ map f xs) (map f xs) ≡ map f (cond b (x ∷ xs) xs)
  keep_mapped true f x xs = refl
  keep_mapped false f x xs = refl

  pub keep_map : (q : B → Bool) (f : A → B) (xs : List A) → keep q (map f xs) ≡ map f (keep (λ x. q (f x)) xs)
  unfolding keep
  keep_map q f [] = refl
  keep_map q f (x ∷ xs) =
      ap (λ ys. cond (q (f x)) (f x ∷ ys) ys) (keep_map q f xs) ∙ keep_mapped (q (f x)) f x (keep (λ y. q (f y)) xs)

  pub get_d_map : (f : A → B) (xs : List A) (k : ℕ) (d : A) (e : B) → k < length xs → get_or (map f xs) k e ≡ f (get_or xs k d)
  get_d_map f [] k d e h = absurd (not-suc-le-zero h)
  get_d_map f (x ∷ xs) zero d e h = refl
  get_d_map f (x ∷ xs) (suc k) d e h = get_d_map f xs k d e (le_of_suc-le-suc h)

-- ---- numbers in a row

pub row_suc : (i k : ℕ) → row (suc i) k ≡ map suc (row i k)
unfolding row
row_suc i zero = refl
row_suc i (suc k) = ap (λ ys. suc i ∷ ys) (row_suc (suc i) k)

pub row_below : (i k n : ℕ) → i + k ≤ n → T (all (λ j. ltb j n) (row i k))
unfolding row all
row_below i zero n h = tt
row_below i (suc k) n h = and_both (ltb i n) (all (λ j. ltb j n) (row (suc i) k)) (lt→ltb i n (omega arith)) (row_below (suc i) k n (omega arith))

-- What is kept of the variables 1 to n is one of them, and passes.
module _ (q : ℕ → Bool) (n k d : ℕ) (few : k < length (keep q (row 1 n))) where
  abbrev kth : ℕ
  kth = get_or (keep q (row 1 n)) k d

-- ---- the k-th that passes, by its index

module _ {A : Type 0} (d : A) where
  -- A list by its indices.
  pub by_index : (xs : List A) → map (λ i. get_or xs i d) (row 0 (length xs)) ≡ xs
  unfolding row
  by_index [] = refl
  by_index (x ∷ xs) = ap (λ ys. x ∷ ys) (ap (map (λ i. get_or (x ∷ xs) i d)) (row_suc 0 (length xs)) ∙ after (row 0 (length xs)) ∙ by_index xs)
    where
      after : (is : List ℕ) → map (λ i. get_or (x ∷ xs) i d) (map suc is) ≡ map (λ i. get_or xs i d) is
      after [] = refl
      after (i ∷ is) = ap (λ ys. get_or xs i d ∷ ys) (after is)

  module _ (q : A → Bool) (xs : List A) where
    -- The indices of those that pass.
    unfoldable pub places : List ℕ
    places = keep (λ i. q (get_or xs i d)) (row 0 (length xs))

    pub keep_places : keep q xs ≡ map (λ i. get_or xs i d) places
    unfolding places
    keep_places = ap (keep q) (sym (by_index xs)) ∙ keep_map q (λ i. get_or xs i d) (row 0 (length xs))

    pub length_places : length places ≡ count q xs
    unfolding count
    length_places = sym (ap length keep_places ∙ length-map places (λ i. get_or xs i d))

    pub kth_place : (k e : ℕ) → k < count q xs → get_or (keep q xs) k d ≡ get_or xs (get_or places k e) d
    kth_place k e h = rw keep_places (get_d_map (λ i. get_or xs i d) places k e d (rw length_places h))

    pub place_within : (k e : ℕ) → k < count q xs → get_or places k e < length xs
    unfolding places
    place_within k e h =
        ltb→lt (get_or places k e) (length xs)
        (all_at (λ j. ltb j (length xs)) places k e
        (all_still (λ i. q (get_or xs i d)) (λ j. ltb j (length xs)) (row 0 (length xs)) (row_below 0 (length xs) (length xs) (omega arith)))
        (rw length_places h))
