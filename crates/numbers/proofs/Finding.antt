-- The clause that a pick among the unsatisfied points at is found by its tally: the k-th word that is 0.
-- Assumes nothing.
use Prim.Native.Nat.{ℕ, zero, suc, ◌+◌, ◌-◌, ◌≤◌, ◌<◌}
use native.Mathlib.Nat.{zero-add, add-zero, suc-add}
use native.Mathlib.Omega.{arith}
use mathlib.Core.Path.{◌≡◌, refl, sym, ap, ap₂, ◌∙◌}
use mathlib.Core.Bool.{Bool, cond}
use mathlib.Core.List.{List, [], ◌∷◌, ◌++◌}
use native.Mathlib.Numerals.{add-one}
use borrow.Author.Tests.{eq-eqb, ne_eqb}
use Rattle.std.specs.List.{filter, range_with_len, slice_get}
use lib.Dec.{T, eqb, ltb, ltb→lt}
use lib.ListN.{length, get_or, length-append}
use Rattle.plpb.specs.Lists.{keep, count, row}
use Rattle.plpb.specs.Plan.{Plan, Assignment, rule_holds}
use Rattle.plpb.specs.Tallies.{unsatisfied}
use Rattle.plpb.proofs.Lists.{keep_append}
use Rattle.plpb.proofs.Tallies.{unsatisfied_count}
use Rattle.words.specs.Words.{word_at}
use Rattle.format.proofs.Lists.{row_split}
use Rattle.numbers.specs.Finding.{zero_words, zeros_below, rank}
use Rattle.numbers.specs.declared.Place.{Place}
use Rattle.numbers.proofs.Keep.{keep_each, row_below, places, kth_place, place_within}

-- ---- the words that a filter of the library lets through

range_row : (i k : ℕ) → range_with_len i k ≡ row i k
unfolding row
range_row i zero = refl
range_row i (suc k) = rw (add-one i) (ap (λ l. i ∷ l) (range_row (suc i) k))

filter_keep : {A : Type 0} (p : A → Bool) (xs : List A) → filter p xs ≡ keep p xs
unfolding keep
filter_keep p [] = refl
filter_keep p (x ∷ xs) = ap (λ ys. cond (p x) (x ∷ ys) ys) (filter_keep p xs)

-- ---- the words below a place, and those from it on

got_behind : {A : Type 0} (xs ys : List A) (n : ℕ) → slice_get (xs ++ ys) (length xs + n) ≡ slice_get ys n
got_behind [] ys n = ap (slice_get ys) (zero-add n)
got_behind (x ∷ xs) ys n = ap (slice_get (x ∷ (xs ++ ys))) (suc-add (length xs) n) ∙ got_behind xs ys n

module _ (table : List ℕ) (base : ℕ) where
  abbrev is_zero : ℕ → Bool
  is_zero i = eqb (word_at table (base + i)) 0

  zeros_split : (at n : ℕ) → zero_words table base (at + n) ≡ zero_words table base at ++ keep is_zero (row at n)
  unfolding zero_words
  zeros_split at n = ap (keep is_zero) (row_split 0 at n ∙ ap (λ i. row 0 at ++ row i n) (zero-add at)) ∙ keep_append is_zero (row 0 at) (row at n)

  -- One word more.
  module _ (i : ℕ) where
    zeros_next : zeros_below table base (i + 1) ≡ zeros_below table base i + length (cond (is_zero i) (i ∷ []) [])
    unfolding zeros_below keep row
    zeros_next = ap length (zeros_split i 1) ∙ length-append (zero_words table base i) (cond (is_zero i) (i ∷ []) [])

    pub zero_counted : word_at table (base + i) ≡ 0 → zeros_below table base (i + 1) ≡ zeros_below table base i + 1
    zero_counted e = zeros_next ∙ ap (λ b. zeros_below table base i + length (cond b (i ∷ []) [])) (eq-eqb _ _ e)

    pub other_passed : (word_at table (base + i) ≡ 0 → ⊥) → zeros_below table base (i + 1) ≡ zeros_below table base i
    other_passed e = zeros_next ∙ ap (λ b. zeros_below table base i + length (cond b (i ∷ []) [])) (ne_eqb _ _ e) ∙ add-zero _

  pub rank_first : (k : ℕ) → rank table base (record { at = 0; left = k }) ≡ k
  unfolding rank zeros_below zero_words keep row
  rank_first k = zero-add k

  -- What is sought from a place on, among what a filter of the library lets through there.
  pub found_onward : (count k : ℕ) (place : Place) → place.at ≤ count → rank table base place ≡ k
      → slice_get (filter is_zero (range_with_len place.at (count - place.at))) place.left ≡ slice_get (zero_words table base count) k
  unfolding rank zeros_below
  found_onward count k place h e =
      let at = place.at in
      let n = count - at in
      ap (λ is. slice_get is place.left) (filter_keep is_zero (range_with_len at n) ∙ ap (keep is_zero) (range_row at n))
      ∙ sym (got_behind (zero_words table base at) (keep is_zero (row at n)) place.left)
      ∙ ap₂ slice_get (sym (zeros_split at n) ∙ ap (zero_words table base) (omega arith)) e

-- ---- unsatisfied clauses

-- Where the words behind base others are how many rules of each clause hold, as a fresh count has them.
module _ (p : Plan) (a : Assignment) (table : List ℕ) (base : ℕ)
    (fresh : (i : ℕ) → i < length p.clauses → word_at table (base + i) ≡ count (rule_holds a) (get_or p.clauses i [])) where
  zero_test : (i : ℕ) → T (ltb i (length p.clauses)) → eqb (word_at table (base + i)) 0 ≡ unsatisfied a (get_or p.clauses i [])
  zero_test i t =
      ap (λ w. eqb w 0) (fresh i (ltb→lt i (length p.clauses) t))
      ∙ sym (unsatisfied_count a (get_or p.clauses i []))

  pub zero_places : zero_words table base (length p.clauses) ≡ places [] (unsatisfied a) p.clauses
  unfolding zero_words places
  zero_places =
      keep_each (λ i. ltb i (length p.clauses)) (λ i. eqb (word_at table (base + i)) 0) (λ i. unsatisfied a (get_or p.clauses i []))
      (row 0 (length p.clauses)) zero_test (row_below 0 (length p.clauses) (length p.clauses) (omega arith))

  module _ (k r e : ℕ) (found : r ≡ get_or (zero_words table base (length p.clauses)) k e) (few : k < count (unsatisfied a) p.clauses) where
    at_place : r ≡ get_or (places [] (unsatisfied a) p.clauses) k e
    at_place = found ∙ ap (λ is. get_or is k e) zero_places

    pub clause_found : get_or (keep (unsatisfied a) p.clauses) k [] ≡ get_or p.clauses r []
    clause_found = rw at_place (kth_place [] (unsatisfied a) p.clauses k e few)

    pub clause_within : r < length p.clauses
    clause_within = rw at_place (place_within [] (unsatisfied a) p.clauses k e few)
