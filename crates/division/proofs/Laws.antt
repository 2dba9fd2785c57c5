-- Laws of the division: what fits.
-- Assumes nothing.
use Prim.Native.Nat.{ℕ, zero, suc, ◌+◌, ◌-◌, ◌*◌, ◌/◌, ◌%◌, ◌≤◌, ◌<◌, zero-le}
use mathlib.Core.Path.{◌≡◌, refl, sym, ap, ◌∙◌}
use mathlib.Core.Bool.{Bool, true, false, not, cond}
use mathlib.Core.List.{List, [], ◌∷◌}
use native.Mathlib.Nat.{add-zero, le_trans, mul-le-mul_left, mul-div-le, mod-add-div, add-mul-div_left, le_of_mul-le-mul_left, mul_assoc, mul_comm, mul-add, add-mul, add_comm}
use native.Mathlib.Numerals.{add-one}
use native.Mathlib.Omega.{arith}
use lib.Dec.{leb, ltb, eqb}
use lib.ListN.{length, get_or}
use borrow.Author.Tests.{tests, ltb-true, ltb-false, eqb-true, lt-ltb, leb-true}
use borrow.Author.Rules.{rules}
use Rattle.std.specs.List.{fold, sum as total_of}
use Rattle.std.specs.Prelude.{Some}
use Rattle.std.specs.Ordering.{is_le, nat_cmp}
use Rattle.std.specs.declared.ops.RangeInclusive.{RangeInclusive}
use Rattle.std.specs.Range.{range_inclusive_start, range_inclusive_end, range_inclusive_exhausted, range_inclusive_contains}
use Rattle.plpb.specs.Lists.{◌and◌, ◌or◌}
use Rattle.plpb.proofs.Lists.{T_true, false_T}
use Rattle.division.specs.Split.{sum, whole_parts, one_each, lawful_stake}
use Rattle.division.specs.Eight.{bad_at, bad_from, extra_at}

-- The library's sum is that of the definition.
sum_on : (a : ℕ) (l : List ℕ) → fold (λ s x. s + x) a l ≡ a + sum l
unfolding sum
sum_on a [] = sym (add-zero a)
sum_on a (x ∷ xs) = sum_on (a + x) xs ∙ omega arith

pub sum_is : (l : List ℕ) → total_of l ≡ sum l
sum_is l = sum_on 0 l ∙ omega arith

-- An element is at most the sum.
pub at_most_lem : (l : List ℕ) (i : ℕ) → get_or l i 0 ≤ sum l
unfolding sum
at_most_lem [] i = zero-le
at_most_lem (x ∷ xs) zero = omega arith
at_most_lem (x ∷ xs) (suc i) = omega (arith, at_most_lem xs i)

-- A share without the product.
pub share_split : (n s t : ℕ) → 0 < t → n / t * s + n % t * s / t ≡ n * s / t
share_split n s t h =
    let e : n * s ≡ n % t * s + t * (n / t * s) =
    ap (λ (k : ℕ). k * s) (sym (mod-add-div n t)) ∙ add-mul (n % t) (t * (n / t)) s ∙ ap (λ (k : ℕ). n % t * s + k) (mul_assoc t (n / t) s) in
    sym (ap (λ (k : ℕ). k / t) e ∙ add-mul-div_left (n % t * s) (n / t * s) h ∙ add_comm (n % t * s / t) (n / t * s))

-- The shares are at most the numbers.
whole_parts_sum : (n t : ℕ) (ss : List ℕ) → t * sum (whole_parts n t ss) ≤ n * sum ss
unfolding sum whole_parts
whole_parts_sum n t [] = omega arith
whole_parts_sum n t (s ∷ ss) =
    omega (arith, mul-div-le (n * s) t, whole_parts_sum n t ss, mul-add t (n * s / t) (sum (whole_parts n t ss)), mul-add n s (sum ss))

pub whole_parts_fit : (n t : ℕ) (ss : List ℕ) → 0 < t → sum ss ≤ t → sum (whole_parts n t ss) ≤ n
whole_parts_fit n t ss h l = le_of_mul-le-mul_left (le_trans (whole_parts_sum n t ss) (rw (mul_comm t n) (mul-le-mul_left n l))) h

-- What remains, given out by the races' places.
unfoldable pub topped_from : ℕ → ℕ → List ℕ → List ℕ
topped_from i r [] = []
topped_from i r (b ∷ bs) = (b + extra_at i r) ∷ topped_from (suc i) r bs

topped : (t : Bool) (i r b : ℕ) (bs : List ℕ) → ltb i r ≡ t → (b + cond t 1 0) ∷ one_each (r - suc i) bs ≡ one_each (r - i) (b ∷ bs)
unfolding one_each
topped true i r b bs h =
    let e : r - i ≡ suc (r - suc i) = omega (arith, ltb-true i r h) in
    rw (e, add-one b)
topped false i r b bs h =
    let l = ltb-false i r h in
    let e : r - i ≡ 0 = omega (arith, l) in
    let f : r - suc i ≡ 0 = omega (arith, l) in
    rw (e, f, add-zero b)

pub one_each_lem : (i r : ℕ) (bs : List ℕ) → topped_from i r bs ≡ one_each (r - i) bs
unfolding topped_from extra_at
one_each_lem i r [] = none (r - i)
  where
    none : (k : ℕ) → [] ≡ one_each k []
    none zero = unfold one_each in refl
    none (suc k) = unfold one_each in refl
one_each_lem i r (b ∷ bs) = ap (λ (ls : List ℕ). (b + cond (ltb i r) 1 0) ∷ ls) (one_each_lem (suc i) r bs) ∙ topped (ltb i r) i r b bs refl

-- With what remains they are at most the numbers.
pub topped_fit : (r : ℕ) (bs : List ℕ) → sum (one_each r bs) ≤ sum bs + r
unfolding sum one_each
topped_fit zero bs = omega arith
topped_fit (suc r) [] = omega arith
topped_fit (suc r) (b ∷ bs) = omega (arith, topped_fit r bs)

-- What a range's `contains` tells of a number is what the two tests of the definition say.
le_test : (a b : ℕ) → is_le (nat_cmp a b) ≡ leb a b
le_test a b = search (rules, tests)

pub told : {b : Bool} {m n : ℕ} (x : ℕ) {r : RangeInclusive ℕ} → range_inclusive_start r ≡ m → range_inclusive_end r ≡ n → range_inclusive_exhausted r ≡ false
    → b ≡ range_inclusive_contains (λ i j. Some (nat_cmp i j)) r x → b ≡ (leb m x and leb x n)
unfolding ◌and◌
told {m = m} {n = n} x e f g h = rw (← le_test m x, ← le_test x n) (h ∙ rw (e, f, g))

-- The two tests of the number of races are one range.
counted_by : (x y z w : Bool) → (x ≡ true → z ≡ false) → (x ≡ false → z ≡ true) → (y ≡ true → w ≡ false) → (y ≡ false → w ≡ true)
    → {A : Type 0} (a b : A) → cond z a (cond w a b) ≡ cond (x and y) b a
unfolding ◌and◌
counted_by true true z w p q r s a b = rw (p refl, r refl) refl
counted_by true false z w p q r s a b = rw (p refl, s refl) refl
counted_by false y z w p q r s a b = rw (q refl) refl

pub counted : (n : ℕ) {A : Type 0} (a b : A) → cond (eqb n 0) a (cond (ltb 8 n) a b) ≡ cond (leb 1 n and leb n 8) b a
counted n a b =
    counted_by (leb 1 n) (leb n 8) (eqb n 0) (ltb 8 n) (λ e. search (rules, tests)) (λ e. search (rules, tests)) (λ e. search (rules, tests)) (λ e. search (rules, tests)) a b

pub few_races : (n : ℕ) → (leb 1 n and leb n 8) ≡ true → (1 ≤ n) × (n ≤ 8)
unfolding ◌and◌
few_races n e = both (leb 1 n) (leb n 8) (leb-true 1 n) (leb-true n 8) e
  where
    both : (x y : Bool) {A B : Type 0} → (x ≡ true → A) → (y ≡ true → B) → (x and y) ≡ true → A × B
    both true true p q h = (p refl, q refl)
    both true false p q h = absurd (false_T (sym h) tt)
    both false y p q h = absurd (false_T (sym h) tt)

-- No stake is bad: each is at most 100, and the first at least 1.
small : (x y z w : Bool) (s : ℕ) → (z ≡ true → s ≤ 100) → (w ≡ true → s ≡ 0) → cond x (not (y and z)) (not w) ≡ false → s ≤ 100
unfolding ◌and◌
small true true true w s p q e = p refl
small true true false w s p q e = absurd (false_T e (T_true refl))
small true false z w s p q e = absurd (false_T e (T_true refl))
small false y z true s p q e = omega (arith, q refl)
small false y z false s p q e = absurd (false_T e (T_true refl))

good_small : (c i s : ℕ) → bad_at c i s ≡ false → s ≤ 100
unfolding bad_at lawful_stake
good_small c i s e = small (ltb i c) (leb 1 s) (leb s 100) (eqb s 0) s (leb-true s 100) (eqb-true s 0) e

some_stake : (y z : Bool) (s : ℕ) → (y ≡ true → 1 ≤ s) → not (y and z) ≡ false → 0 < s
unfolding ◌and◌
some_stake true z s q e = omega (arith, q refl)
some_stake false z s q e = absurd (false_T e (T_true refl))

good_first : (c s : ℕ) → 0 < c → bad_at c 0 s ≡ false → 0 < s
unfolding bad_at lawful_stake
good_first c s h e = some_stake (leb 1 s) (leb s 100) s (leb-true 1 s) (rw (lt-ltb 0 c h) at e)

-- Neither holds.
pub neither : (x y : Bool) → (x or y) ≡ false → (x ≡ false) × (y ≡ false)
unfolding ◌or◌
neither true y e = absurd (false_T e (T_true refl))
neither false y e = (refl, e)

pub good_sum : (c i : ℕ) (ss : List ℕ) → bad_from c i ss ≡ false → sum ss ≤ 100 * length ss
unfolding sum bad_from
good_sum c i [] e = zero-le
good_sum c i (s ∷ ss) e =
    let n = neither (bad_at c i s) (bad_from c (suc i) ss) e in omega (arith, good_small c i s n.0, good_sum c (suc i) ss n.1)

pub good_some : (c : ℕ) (ss : List ℕ) → 0 < c → 0 < length ss → bad_from c 0 ss ≡ false → 0 < sum ss
unfolding sum bad_from
good_some c [] h l e = absurd (omega (arith, l))
good_some c (s ∷ ss) h l e = omega (arith, good_first c s h (neither (bad_at c 0 s) (bad_from c 1 ss) e).0)

-- What the parts of lawful stakes ask, by what each step gave.
pub fits_in : (n t : ℕ) (ss b : List ℕ) → t ≡ sum ss → 0 < sum ss → b ≡ whole_parts n t ss → sum b ≤ n
fits_in n t ss b et h eb = rw eb (whole_parts_fit n t ss (omega (arith, et, h)) (omega (arith, et)))

pub tops_in : (n u : ℕ) (b l : List ℕ) → u ≡ sum b → sum b ≤ n → l ≡ one_each (n - u) b → sum l ≤ n
tops_in n u b l eu h el = rw el (omega (arith, topped_fit (n - u) b, eu, h))
