-- The new numbers: each unlocked variable stands in the list at its new number's place, and the assignments of the unlocked variables are those of
-- all variables that obey the locks. By induction over the numbers up to n.
-- Assumes nothing.
use Prim.Native.Nat.{ℕ, zero, suc, ◌+◌, ◌-◌, ◌≤◌, ◌<◌}
use native.Mathlib.Nat.{not-suc-le-zero, zero-add, suc-add, le_refl}
use native.Mathlib.Numerals.{add-one}
use native.Mathlib.Omega.{arith}
use mathlib.Core.Path.{◌≡◌, refl, sym, ap, ◌∙◌, subst}
use mathlib.Core.Bool.{Bool, true, false, not, cond}
use mathlib.Core.List.{[], ◌∷◌, ◌++◌}
use lib.Dec.{T, ltb}
use lib.ListN.{length, get_or, length-map, get_or-append, get_or-map}
use lib.Seq.{get_or_at, ext_get_or}
use borrow.Author.Tests.{lt-ltb, ltb-true, ltb-false}
use Rattle.plpb.specs.Lists.{◌and◌, keep, count, row}
use Rattle.plpb.specs.Plan.{Bound, absent, present, is_present, Plan, Assignment, value, is_variable, lock_of, is_locked, agrees, obeys}
use Rattle.plpb.proofs.Lists.{count_append, count_cons, count_nil, keep_append, length_row, is_true, is_false}
use Rattle.plpb.proofs.Locks.{all_in_row, obeyed, free}
use Rattle.format.proofs.Lists.{row_split}
use Rattle.squeezed.specs.Squeezed.{renumbered, is_unlocked, unlocked, new_number, under_lock, becomes}
use Rattle.squeezed.specs.Claims.{value_of, extended, restricted, OneToOne, ListSays}
use Rattle.squeezed.proofs.Alike.{value_extended}

-- One number more.
pub row_more : (n : ℕ) → row 1 (suc n) ≡ row 1 n ++ (suc n ∷ [])
unfolding row
row_more n = ap (row 1) (sym (add-one n)) ∙ row_split 1 n 1 ∙ (let e : 1 + n ≡ suc n = omega arith in ap (λ x. row 1 n ++ (x ∷ [])) e)

-- How many of the numbers up to one pass a test.
module _ (q : ℕ → Bool) where
  pub up_suc : (n : ℕ) → count q (row 1 (suc n)) ≡ count q (row 1 n) + cond (q (suc n)) 1 0
  up_suc n =
      ap (count q) (row_more n) ∙ count_append q (row 1 n) (suc n ∷ [])
      ∙ ap (λ k. count q (row 1 n) + k) (count_cons q (suc n) [] ∙ ap (λ k. cond (q (suc n)) 1 0 + k) (count_nil q) ∙ omega arith)

  pub up_pass : (n : ℕ) → q (suc n) ≡ true → count q (row 1 (suc n)) ≡ suc (count q (row 1 n))
  up_pass n e = up_suc n ∙ rw e (omega arith)

  pub up_fail : (n : ℕ) → q (suc n) ≡ false → count q (row 1 (suc n)) ≡ count q (row 1 n)
  up_fail n e = up_suc n ∙ rw e (omega arith)

  pub up_rises : (k n : ℕ) → count q (row 1 n) ≤ count q (row 1 (k + n))
  up_rises zero n = rw (zero-add n) (le_refl (count q (row 1 n)))
  up_rises (suc k) n = rw (suc-add k n) (omega (arith, up_rises k n, up_suc (k + n)))

  pub up_mono : (m n : ℕ) → m ≤ n → count q (row 1 m) ≤ count q (row 1 n)
  up_mono m n h = let e : n - m + m ≡ n = omega arith in rw e at (up_rises (n - m) m)

  pub up_less : (m n : ℕ) → m < n → q n ≡ true → count q (row 1 m) < count q (row 1 n)
  up_less m zero h e = absurd (not-suc-le-zero h)
  up_less m (suc n) h e = omega (arith, up_pass n e, up_mono m n (omega arith))

  -- The numbers that pass, one number more.
  pub keep_pass : (n : ℕ) → q (suc n) ≡ true → keep q (row 1 (suc n)) ≡ keep q (row 1 n) ++ (suc n ∷ [])
  unfolding keep
  keep_pass n e = ap (keep q) (row_more n) ∙ keep_append q (row 1 n) (suc n ∷ []) ∙ rw e

  pub keep_fail : (n : ℕ) → q (suc n) ≡ false → keep q (row 1 (suc n)) ≡ keep q (row 1 n) ++ []
  unfolding keep
  keep_fail n e = ap (keep q) (row_more n) ∙ keep_append q (row 1 n) (suc n ∷ []) ∙ rw e

  -- What stands at a place of the list.
  record At (n j x : ℕ) : Type 0 where
    low : 1 ≤ x
    high : x ≤ n
    passes : q x ≡ true
    place : count q (row 1 x) ≡ suc j

  one_more : (n j : ℕ) {x : ℕ} → At n j x → At (suc n) j x
  one_more n j a = record { low = a.low; high = omega (arith, a.high); passes = a.passes; place = a.place }

  at_pass : (n j : ℕ) → q (suc n) ≡ true → j < count q (row 1 (suc n)) → (j < count q (row 1 n) → At n j (get_or (keep q (row 1 n)) j 0))
      → At (suc n) j (get_or (keep q (row 1 (suc n))) j 0)
  unfolding count
  at_pass n j e h ih = by (ltb j (count q (row 1 n))) refl
    where
      by : (t : Bool) → ltb j (count q (row 1 n)) ≡ t → At (suc n) j (get_or (keep q (row 1 (suc n))) j 0)
      by true l = rw (keep_pass n e, get_or-append (keep q (row 1 n)) (suc n ∷ []) 0 j (ltb-true _ _ l)) (one_more n j (ih (ltb-true _ _ l)))
      by false l =
          let k : count q (row 1 n) ≡ j = omega (arith, ltb-false j (count q (row 1 n)) l, up_pass n e) in
          rw (keep_pass n e, get_or_at (keep q (row 1 n)) (suc n) [] 0 j k)
          (record { low = omega arith; high = omega arith; passes = e; place = up_pass n e ∙ ap suc k })

  at_fail : (n j : ℕ) → q (suc n) ≡ false → j < count q (row 1 (suc n)) → (j < count q (row 1 n) → At n j (get_or (keep q (row 1 n)) j 0))
      → At (suc n) j (get_or (keep q (row 1 (suc n))) j 0)
  unfolding count
  at_fail n j e h ih =
      let l : j < count q (row 1 n) = omega (arith, up_fail n e) in
      rw (keep_fail n e, get_or-append (keep q (row 1 n)) [] 0 j l) (one_more n j (ih l))

  empty : count q (row 1 0) ≡ 0
  unfolding row
  empty = count_nil q

  at_place : (n j : ℕ) → j < count q (row 1 n) → At n j (get_or (keep q (row 1 n)) j 0)
  at_place zero j h = absurd (none h)
    where
      none : j < count q (row 1 0) → ⊥
      none l = omega (arith, empty)
  at_place (suc n) j h = by (q (suc n)) refl (at_place n j)
    where
      by : (t : Bool) → q (suc n) ≡ t → (j < count q (row 1 n) → At n j (get_or (keep q (row 1 n)) j 0)) → At (suc n) j (get_or (keep q (row 1 (suc n))) j 0)
      by true e ih = at_pass n j e h ih
      by false e ih = at_fail n j e h ih

  not_below : (x y : ℕ) → q y ≡ true → count q (row 1 x) ≡ count q (row 1 y) → y ≤ x
  not_below x y e h = by (ltb x y) refl
    where
      by : (t : Bool) → ltb x y ≡ t → y ≤ x
      by true l = absurd (omega (arith, up_less x y (ltb-true x y l) e))
      by false l = ltb-false x y l

  pub same_place : (x y : ℕ) → q x ≡ true → q y ≡ true → count q (row 1 x) ≡ count q (row 1 y) → x ≡ y
  same_place x y e f h = let a = not_below x y f h in let b = not_below y x e (sym h) in omega arith

  -- A number that passes stands at its place.
  pub place_of_lem : (n x : ℕ) → 1 ≤ x → x ≤ n → q x ≡ true → get_or (keep q (row 1 n)) (count q (row 1 x) - 1) 0 ≡ x
  place_of_lem n x l u e =
      let j = count q (row 1 x) - 1 in
      let m : x - 1 < x = omega arith in
      let some = up_less (x - 1) x m e in
      let few = up_mono x n u in
      let a = at_place n j (omega arith) in
      same_place (get_or (keep q (row 1 n)) j 0) x a.passes e (a.place ∙ (let s : suc j ≡ count q (row 1 x) = omega arith in s))

-- ---- of a plan

pub passes : (p : Plan) (x : ℕ) → is_locked p x ≡ false → is_unlocked p x ≡ true
unfolding is_unlocked
passes p x e = rw e

pub unlocked_free : (p : Plan) (x : ℕ) → is_unlocked p x ≡ true → is_locked p x ≡ false
unfolding is_unlocked
unlocked_free p x e = not_true (is_locked p x) e
  where
    not_true : (b : Bool) → not b ≡ true → b ≡ false
    not_true true h = sym h
    not_true false h = refl

-- What becomes of an unlocked and of a locked variable.
pub becomes_new : (p : Plan) (x : ℕ) → is_variable p x ≡ true → is_locked p x ≡ false → becomes p x ≡ renumbered (new_number p x)
unfolding becomes under_lock
becomes_new p x v e = rw (v, free p x e)

pub in_range_lem : (p : Plan) (x : ℕ) → 1 ≤ x → x ≤ p.variables → is_variable p x ≡ true
unfolding is_variable ◌and◌
in_range_lem p x l u = rw (lt-ltb 0 x l, lt-ltb x (suc p.variables) (omega arith))

pub list_says : ListSays
unfolding new_number unlocked count
list_says p x l u e =
    let q = is_unlocked p in
    let h = passes p x e in
    let m : x - 1 < x = omega arith in
    (omega (arith, up_less q (x - 1) x m h), up_mono q x p.variables u, place_of_lem q p.variables x l u h)

-- ---- assignments

value_at : (b : Assignment) (k : ℕ) → 1 ≤ k → value b k ≡ get_or b (k - 1) false
unfolding value
value_at b zero h = absurd (not-suc-le-zero h)
value_at b (suc k) h = let e : k ≡ suc k - 1 = omega arith in ap (λ i. get_or b i false) e

module _ (p : Plan) where
  -- What an unlocked variable has in a restricted assignment is what it had.
  restricted_at : (a : Assignment) (j : ℕ) → get_or (restricted p a) j false ≡ value a (get_or (unlocked p) j 0)
  unfolding restricted value
  restricted_at a j = get_or-map (value a) (unlocked p) j 0

  value_new : (a : Assignment) (x : ℕ) → 1 ≤ x → x ≤ p.variables → is_locked p x ≡ false → value (restricted p a) (new_number p x) ≡ value a x
  value_new a x l u e =
      let (some, few, there) = list_says p x l u e in
      value_at (restricted p a) (new_number p x) some ∙ restricted_at a (new_number p x - 1) ∙ ap (value a) there

  -- By what the lock says.
  agreed : (a : Assignment) (x : ℕ) (k : Bound Bool) → is_variable p x ≡ true → lock_of p x ≡ k → T (agrees k (value a x)) → 1 ≤ x → x ≤ p.variables
      → value_of (becomes p x) (restricted p a) ≡ value a x
  unfolding becomes under_lock value_of agrees is_locked is_present
  agreed a x absent v e t l u = rw (v, e) (value_new a x l u (rw e))
  agreed a x (present true) v e t l u = rw (v, e) (sym (is_true (value a x) t))
  agreed a x (present false) v e t l u = rw (v, e) (sym (is_false (value a x) t))

  own_value : (b : Assignment) (x : ℕ) (k : Bound Bool) → is_variable p x ≡ true → lock_of p x ≡ k → T (agrees k (value_of (becomes p x) b))
  unfolding becomes under_lock value_of agrees
  own_value b x absent v e = tt
  own_value b x (present true) v e = rw (v, e) tt
  own_value b x (present false) v e = rw (v, e) tt

  pub extended_obeys : (b : Assignment) → T (obeys (extended p b) p)
  unfolding obeys
  extended_obeys b =
      all_in_row _ 1 p.variables
      (λ x l u. subst (λ t. T (agrees (lock_of p x) t)) (sym (value_extended p b x)) (own_value b x (lock_of p x) (in_range_lem p x l (omega arith)) refl))

  pub length_extended : (b : Assignment) → length (extended p b) ≡ p.variables
  unfolding extended
  length_extended b = length-map (row 1 p.variables) _ ∙ length_row 1 p.variables

  pub length_restricted : (a : Assignment) → length (restricted p a) ≡ length (unlocked p)
  unfolding restricted
  length_restricted a = length-map (unlocked p) (value a)

  value_suc : (b : Assignment) (i : ℕ) → get_or b i false ≡ value b (suc i)
  unfolding value
  value_suc b i = refl

  pub there_and_back : (a : Assignment) → length a ≡ p.variables → T (obeys a p) → extended p (restricted p a) ≡ a
  there_and_back a n h =
      ext_get_or false _ _ (length_extended (restricted p a) ∙ sym n)
      (λ i l.
      let u : suc i ≤ p.variables = omega (arith, length_extended (restricted p a)) in
      let s : 1 ≤ suc i = omega arith in
      value_suc _ i ∙ value_extended p (restricted p a) (suc i)
      ∙ agreed a (suc i) (lock_of p (suc i)) (in_range_lem p (suc i) s u) refl (obeyed p a (suc i) h) s u ∙ sym (value_suc a i))

  pub back_and_there : (b : Assignment) → length b ≡ length (unlocked p) → restricted p (extended p b) ≡ b
  unfolding unlocked value_of new_number count
  back_and_there b n =
      ext_get_or false _ _ (length_restricted (extended p b) ∙ sym n)
      (λ j l.
      let at = at_place (is_unlocked p) p.variables j (omega (arith, length_restricted (extended p b))) in
      let x = get_or (unlocked p) j 0 in
      restricted_at (extended p b) j ∙ value_extended p b x
      ∙ ap (λ m. value_of m b) (becomes_new p x (in_range_lem p x at.low at.high) (unlocked_free p x at.passes))
      ∙ ap (value b) at.place ∙ sym (value_suc b j))

pub one_to_one : OneToOne
one_to_one p =
    (λ b n. (extended_obeys p b, back_and_there p b n), λ a n h. (length_restricted p a, there_and_back p a n h))
