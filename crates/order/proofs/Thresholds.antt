-- The thresholds: a rule has no part false after a flip exactly where it holds then, and the flip spoils a part exactly where more can be chosen after it;
-- a clause breaks exactly where each of its rules has a part false after the flip and one of them is spoiled.
-- Assumes nothing.
use Prim.Native.Nat.{ℕ, zero, suc, ◌+◌, ◌*◌, ◌-◌, ◌≤◌, ◌<◌}
use native.Mathlib.Nat.{zero-add, add-zero, suc-add, le_refl, le_trans, zero-mul, mul-zero, mul-sub, sub-add_cancel, add-mul, le-mul_of_pos_right, mul-le-mul, mul-le-mul_left}
use native.Mathlib.Numerals.{add-one}
use native.Mathlib.Omega.{arith}
use mathlib.Core.Path.{◌≡◌, refl, sym, ap, ◌∙◌}
use mathlib.Core.Bool.{Bool, true, false, not}
use mathlib.Core.List.{List, [], ◌∷◌}
use lib.Dec.{T, ltb, leb, eqb}
use lib.ListN.{length}
use borrow.Author.Tests.{lt-ltb, le-ltb, leb-true, leb-false, ltb-true, ltb-false, eq-eqb, ne_eqb, eqb-true, eqb-false}
use Rattle.plpb.specs.Lists.{◌and◌, ◌or◌, any, all, sum_by}
use Rattle.plpb.specs.Plan.{Bound, absent, present, Rule, Clause, Plan, Assignment, numbers_rise}
use Rattle.plpb.specs.Equations.{binom, over, Standing, out, on, off, shares, shares_of, product, clause_break, break_sum, lost, gained}
use Rattle.plpb.specs.Count.{capped, capped_break}
use Rattle.plpb.specs.Expansion.{break_count}
use Rattle.plpb.proofs.Capped.{capped_zero, capped_none}
use Rattle.plpb.proofs.Binomial.{binom_vanishes, binom_mono_upper, binom_positive}
use Rattle.plpb.specs.Normal.{below_size}
use Rattle.plpb.proofs.Equations.{break_formula}
use Rattle.order.specs.Breaks.{spoils_part, false_after, breaks_along}

-- ---- more to choose from

more_chosen : (m n j : ℕ) → m ≤ n → j ≤ n → binom m (j + 1) < binom (n + 1) (j + 1)
unfolding binom
more_chosen m n j h l = rw (add-one j, add-one n) (omega (arith, binom_mono_upper (suc j) h, binom_positive n j l))

pub grows_absent : (m w : ℕ) → false ≡ ltb 0 (over (m + w) absent - over m absent)
unfolding over
grows_absent m w = refl

module _ (m w k : ℕ) where
  pub grows_empty : k ≡ 0 → false ≡ ltb 0 (over (m + w) (present k) - over m (present k))
  unfolding over binom
  grows_empty e = rw e refl

  pub grows_still : w ≡ 0 → false ≡ ltb 0 (over (m + w) (present k) - over m (present k))
  unfolding over
  grows_still e = rw (e, add-zero m) (sym (le-ltb 0 (binom m k - binom m k) (omega arith)))

  pub grows_present : 0 < k → 0 < w → leb k (m + w) ≡ ltb 0 (over (m + w) (present k) - over m (present k))
  unfolding over
  grows_present low more = at (leb k (m + w)) refl
    where
      at : (b : Bool) → leb k (m + w) ≡ b → b ≡ ltb 0 (binom (m + w) k - binom m k)
      at true e =
          let l : k ≤ m + w = leb-true k (m + w) e in
          sym (lt-ltb 0 (binom (m + w) k - binom m k) (omega (arith, rw (sub-add_cancel low, sub-add_cancel (le_trans low l)) at (more_chosen m (m + w - 1) (k - 1) (omega arith) (omega arith)))))
      at false e = sym (le-ltb 0 (binom (m + w) k - binom m k) (omega (arith, binom_vanishes (m + w) k (leb-false k (m + w) e))))

-- ---- a rule after the flip

-- There is nothing to choose exactly where a bound's size is not reached.
pub some_chosen : (n : ℕ) (b : Bound ℕ) → ltb 0 (over n b) ≡ not (below_size n b)
unfolding over below_size
some_chosen n absent = refl
some_chosen n (present k) = at (ltb n k) refl
  where
    at : (b : Bool) → ltb n k ≡ b → ltb 0 (binom n k) ≡ not b
    at true e = le-ltb 0 (binom n k) (omega (arith, binom_vanishes n k (ltb-true n k e)))
    at false e = lt-ltb 0 (binom n k) (binom_positive n k (ltb-false n k e))

some_suc : (n : ℕ) → ltb 0 (suc n) ≡ true
some_suc n = lt-ltb 0 (suc n) (omega arith)

pub some_of_two : (u v : ℕ) → ltb 0 (u + v) ≡ ltb 0 u or ltb 0 v
unfolding ◌or◌
some_of_two zero v = ap (ltb 0) (zero-add v)
some_of_two (suc u) v = rw (some_suc u) (lt-ltb 0 (suc u + v) (omega arith))

over_mono : (b : Bound ℕ) (m w : ℕ) → over m b ≤ over (m + w) b
unfolding over
over_mono absent m w = le_refl 0
over_mono (present k) m w = binom_mono_upper k (omega arith)

-- What is false after the flip, from N and P after it.
pub after_flip : (s : Standing) (n p n' p' : ℕ) (A B : Bound ℕ) → lost s ≤ p → gained s ≤ n → n' + gained s ≡ n + lost s → p' + lost s ≡ p + gained s → (shares s n p A B).e + (shares s n p A B).g ≡ over n' A + over p' B
unfolding shares lost gained
after_flip out n p n' p' A B l g en ep =
    let i : n' ≡ n = omega arith in
    let j : p' ≡ p = omega arith in
    rw (i, j) (zero-add _)
after_flip (on w) n p n' p' A B l g en ep =
    let i : n' ≡ n + w = omega arith in
    let j : p' ≡ p - w = omega arith in
    rw (i, j) (omega (arith, over_mono A n w))
after_flip (off w) n p n' p' A B l g en ep =
    let i : n' ≡ n - w = omega arith in
    let j : p' ≡ p + w = omega arith in
    rw (i, j) (omega (arith, over_mono B p w))

-- ---- a clause

some_times : (n d : ℕ) → ltb 0 (suc n * d) ≡ ltb 0 d
some_times n zero = ap (ltb 0) (mul-zero (suc n))
some_times n (suc d) = rw (some_suc d) (lt-ltb 0 (suc n * suc d) (le_trans (omega arith) (le-mul_of_pos_right (suc n) (omega arith))))

product_some : (f : Rule → ℕ) (c : Clause) → ltb 0 (product f c) ≡ all (λ q. ltb 0 (f q)) c
unfolding product all ◌and◌
product_some f [] = refl
product_some f (q ∷ qs) = at (f q) (product_some f qs)
  where
    at : (n : ℕ) → ltb 0 (product f qs) ≡ all (λ r. ltb 0 (f r)) qs → ltb 0 (n * product f qs) ≡ ltb 0 n and all (λ r. ltb 0 (f r)) qs
    at zero ih = ap (ltb 0) (zero-mul (product f qs))
    at (suc n) ih = rw (some_suc n) (some_times n (product f qs) ∙ ih)

-- Of fewer parts left than false after it, the product is no larger.
left_fewer : (e g : Rule → ℕ) (c : Clause) → product g c ≤ product (λ q. e q + g q) c
unfolding product
left_fewer e g [] = le_refl 1
left_fewer e g (q ∷ qs) = mul-le-mul (omega arith) (left_fewer e g qs)

-- One rule joined to the rest, of which E parts are false after the flip and G left.
joined_some : (e g E G : ℕ) (each one : Bool) → G ≤ E → ltb 0 E ≡ each → ltb 0 (E - G) ≡ each and one → ltb 0 ((e + g) * E - g * G) ≡ (ltb 0 (e + g) and each) and (ltb 0 e or one)
unfolding ◌and◌ ◌or◌
joined_some zero zero E G each one h p q = le-ltb 0 ((0 + 0) * E - 0 * G) (rw (zero-mul E) (omega arith))
joined_some zero (suc g) E G each one h p q =
    let d : (0 + suc g) * E - suc g * G ≡ suc g * (E - G) = rw zero-add (sym (mul-sub (suc g) E G)) in
    rw (d, zero-add (suc g), some_suc g) (some_times g (E - G) ∙ q)
joined_some (suc e) g E G each one h p q =
    let d : (suc e + g) * E - g * G ≡ suc e * E + g * (E - G) = omega (arith, add-mul (suc e) g E, mul-sub g E G, mul-le-mul_left g h) in
    rw (d, suc-add e g, some_suc (e + g), some_suc e)
    (some_of_two (suc e * E) (g * (E - G)) ∙ ap (λ b. b or ltb 0 (g * (E - G))) (some_times e E ∙ p) ∙ at each q)
  where
    at : (b : Bool) → ltb 0 (E - G) ≡ b and one → b or ltb 0 (g * (E - G)) ≡ b and true
    at true k = refl
    at false k =
        let z : E - G ≡ 0 = omega (arith, ltb-false 0 (E - G) k) in
        ap (ltb 0) (ap (λ n. g * n) z ∙ mul-zero g)

-- (6) is 0 exactly where some rule has no part false after the flip, or the flip spoils no part of any.
breaks_by_tests : (e g : Rule → ℕ) (c : Clause) → ltb 0 (product (λ q. e q + g q) c - product g c) ≡ all (λ q. ltb 0 (e q + g q)) c and any (λ q. ltb 0 (e q)) c
unfolding product all any ◌and◌
breaks_by_tests e g [] = refl
breaks_by_tests e g (q ∷ qs) =
    joined_some (e q) (g q) (product (λ r. e r + g r) qs) (product g qs) (all (λ r. ltb 0 (e r + g r)) qs) (any (λ r. ltb 0 (e r)) qs)
    (left_fewer e g qs) (product_some (λ r. e r + g r) qs) (breaks_by_tests e g qs)

pub clause_breaks : (a : Assignment) (x : ℕ) (c : Clause) → ltb 0 (clause_break a x c) ≡ breaks_along a x false c
unfolding clause_break breaks_along false_after spoils_part ◌or◌
clause_breaks a x c = breaks_by_tests (λ q. (shares_of a x q).e) (λ q. (shares_of a x q).g) c

-- ---- a plan

none_broken : {A : Type 0} (f : A → ℕ) (xs : List A) → eqb (sum_by f xs) 0 ≡ not (any (λ y. ltb 0 (f y)) xs)
unfolding sum_by any ◌or◌
none_broken f [] = refl
none_broken f (x ∷ xs) = at (f x) (none_broken f xs)
  where
    at : (n : ℕ) → eqb (sum_by f xs) 0 ≡ not (any (λ y. ltb 0 (f y)) xs) → eqb (n + sum_by f xs) 0 ≡ not (ltb 0 n or any (λ y. ltb 0 (f y)) xs)
    at zero ih = rw (zero-add (sum_by f xs)) ih
    at (suc n) ih = rw (some_suc n) (ne_eqb (suc n + sum_by f xs) 0 (λ z. omega arith))

capped_nothing : (n : ℕ) → eqb (capped n) 0 ≡ eqb n 0
capped_nothing n = at (eqb n 0) refl
  where
    at : (b : Bool) → eqb n 0 ≡ b → eqb (capped n) 0 ≡ b
    at true e = eq-eqb (capped n) 0 (ap capped (eqb-true n 0 e) ∙ capped_zero)
    at false e = ne_eqb (capped n) 0 (λ z. eqb-false n 0 e (capped_none n z))

-- Some clause breaks, counted nowhere.
pub plan_breaks : (p : Plan) (a : Assignment) (x : ℕ) → T (numbers_rise p) → 0 < x → x ≤ length a → eqb (capped_break p a x) 0 ≡ not (any (λ c. ltb 0 (clause_break a x c)) p.clauses)
unfolding capped_break break_sum
plan_breaks p a x rise low high =
    capped_nothing (break_count p a x) ∙ ap (λ n. eqb n 0) (break_formula p a x rise low high) ∙ none_broken (clause_break a x) p.clauses
