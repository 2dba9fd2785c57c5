-- Equations (10), (11) and (12) as document 01 reads them: the parts false before a flip, after it and both times are the choices among the
-- copies false then, and rising variable numbers make the flipped variable's copies those of one term.
use Prim.Native.Nat.{ℕ, ◌+◌, ◌*◌, ◌-◌, ◌≤◌, ◌<◌}
use native.Mathlib.Nat.{zero-add, add-zero, add-sub_cancel}
use native.Mathlib.Omega.{arith}
use mathlib.Core.Path.{◌≡◌, refl, sym, ap, ap₂, ◌∙◌}
use mathlib.Core.Logic.{◌≢◌}
use mathlib.Core.Bool.{Bool, true, false, not, cond}
use mathlib.Core.List.{List, [], ◌∷◌, map}
use borrow.Author.Tests.{eqb-true, eqb-false}
use lib.Dec.{T, ltb, eqb, ltb→lt}
use lib.ListN.{length}
use Rattle.plpb.specs.Lists.{◌and◌, count, all, sum_by}
use Rattle.plpb.specs.Plan.{Bound, Term, Rule, Clause, Plan, Assignment, flip, rising_above, rising, numbers_rise}
use Rattle.plpb.specs.Normal.{Literal, opposite, literal, literal_true, size, P, N, copies, size_a, size_b}
use Rattle.plpb.specs.Expansion.{Part, choices, parts, expand_clause, spoils, mends, leaves, break_count, make_count}
use Rattle.plpb.specs.Equations.{over, Standing, out, on, off, standing, lost, gained, Shares, shares, shares_of, product, clause_break, clause_make, break_sum, make_sum}
use Rattle.plpb.proofs.Lists.{and_left, and_right, and_not_self, not_self_and, all_and, count_append, count_map, count_same, count_split, count_split_right, sum_by_each}
use Rattle.plpb.proofs.Choices.{count_choices, count_copies, true_copies, false_copies, opposite_false, false_opposites}
use Rattle.plpb.proofs.Theorem2.{false_part}
use Rattle.plpb.proofs.Theorem1.{is_false, spoiled_and_left, mended_and_left, clause_break_lem, clause_make_lem, break_by_clauses, make_by_clauses}
use Rattle.plpb.proofs.Flip.{flip_literal_same, flip_literal_other}

-- ---- the copies that a flip turns over

-- A test that only literals of one variable can pass.
module _ (x : ℕ) (q : Literal → Bool) (away : (k : Literal) → k.variable ≢ x → q k ≡ false) where
  head_away : (t : Term) → t.variable ≢ x → cond (q (literal t)) (size t) 0 ≡ 0
  unfolding literal
  head_away t h = rw (away (literal t) h) refl

  unnamed : (v : ℕ) (ts : List Term) → T (rising_above v ts) → x ≤ v → sum_by (λ t. cond (q (literal t)) (size t) 0) ts ≡ 0
  unfolding rising_above sum_by
  unnamed v [] r h = refl
  unnamed v (t ∷ ts) r h =
      let above : v < t.variable = ltb→lt v t.variable (and_left (ltb v t.variable) (rising_above t.variable ts) r) in
      ap₂ ◌+◌ (head_away t (omega arith))
      (unnamed t.variable ts (and_right (ltb v t.variable) (rising_above t.variable ts) r) (omega arith))

  -- Its weight is told by the standing, if the weight of one term is.
  by_standing : (a : Assignment) (w : Standing → ℕ) → w out ≡ 0 → ((k : Literal) (n : ℕ) → k.variable ≡ x → cond (q k) n 0 ≡ w (cond (literal_true a k) (on n) (off n))) → (v : ℕ) (ts : List Term) → T (rising_above v ts) → sum_by (λ t. cond (q (literal t)) (size t) 0) ts ≡ w (standing a x ts)
  unfolding rising_above sum_by standing literal
  by_standing a w none one v [] r = sym none
  by_standing a w none one v (t ∷ ts) r = at (eqb t.variable x) refl (by_standing a w none one t.variable ts above)
    where
      above : T (rising_above t.variable ts)
      above = and_right (ltb v t.variable) (rising_above t.variable ts) r

      weight : List Term → ℕ
      weight us = sum_by (λ u. cond (q (literal u)) (size u) 0) us

      at : (b : Bool) → eqb t.variable x ≡ b → weight ts ≡ w (standing a x ts) → weight (t ∷ ts) ≡ w (cond b (cond (literal_true a (literal t)) (on (size t)) (off (size t))) (standing a x ts))
      at true e ih =
          let same : t.variable ≡ x = eqb-true t.variable x e in
          ap₂ ◌+◌ (one (literal t) (size t) same) (unnamed t.variable ts above (omega arith)) ∙ add-zero _
      at false e ih = ap₂ ◌+◌ (head_away t (eqb-false t.variable x e)) ih ∙ zero-add _

-- One term's weight, by whether its literal is true.
lost_one : (b : Bool) (n : ℕ) → cond (b and not (not b)) n 0 ≡ lost (cond b (on n) (off n))
unfolding lost ◌and◌
lost_one true n = refl
lost_one false n = refl

gained_one : (b : Bool) (n : ℕ) → cond (not b and not b) n 0 ≡ gained (cond b (on n) (off n))
unfolding gained ◌and◌
gained_one true n = refl
gained_one false n = refl

-- ---- before and after

module _ (a : Assignment) (x : ℕ) (ts : List Term) where
  -- How many copies are true, or false, before a flip and after it.
  both_true : ℕ
  both_true = count (λ k. literal_true a k and literal_true (flip a x) k) (copies ts)

  both_false : ℕ
  both_false = count (λ k. not (literal_true a k) and not (literal_true (flip a x) k)) (copies ts)

  true_then_false : ℕ
  true_then_false = count (λ k. literal_true a k and not (literal_true (flip a x) k)) (copies ts)

  false_then_true : ℕ
  false_then_true = count (λ k. not (literal_true a k) and literal_true (flip a x) k) (copies ts)

  module _ (rises : T (rising ts)) (low : 0 < x) (high : x ≤ length a) where
    loses : true_then_false ≡ lost (standing a x ts)
    unfolding true_then_false rising lost
    loses = count_copies q ts ∙ by_standing x q away a lost refl one 0 ts rises
      where
        q : Literal → Bool
        q k = literal_true a k and not (literal_true (flip a x) k)

        away : (k : Literal) → k.variable ≢ x → q k ≡ false
        away k h = rw (flip_literal_other a x k h) (and_not_self (literal_true a k))

        one : (k : Literal) (n : ℕ) → k.variable ≡ x → cond (q k) n 0 ≡ lost (cond (literal_true a k) (on n) (off n))
        one k n e = rw (flip_literal_same a x k low high e) (lost_one (literal_true a k) n)

    gains : false_then_true ≡ gained (standing a x ts)
    unfolding false_then_true rising gained
    gains = count_copies q ts ∙ by_standing x q away a gained refl one 0 ts rises
      where
        q : Literal → Bool
        q k = not (literal_true a k) and literal_true (flip a x) k

        away : (k : Literal) → k.variable ≢ x → q k ≡ false
        away k h = rw (flip_literal_other a x k h) (not_self_and (literal_true a k))

        one : (k : Literal) (n : ℕ) → k.variable ≡ x → cond (q k) n 0 ≡ gained (cond (literal_true a k) (on n) (off n))
        one k n e = rw (flip_literal_same a x k low high e) (gained_one (literal_true a k) n)

    P_before : P a ts ≡ both_true + lost (standing a x ts)
    unfolding both_true true_then_false
    P_before = omega (arith, loses, true_copies a ts, count_split_right (literal_true (flip a x)) (literal_true a) (copies ts))

    P_after : P (flip a x) ts ≡ both_true + gained (standing a x ts)
    unfolding both_true false_then_true
    P_after = omega (arith, gains, true_copies (flip a x) ts, count_split (literal_true a) (literal_true (flip a x)) (copies ts))

    N_before : N a ts ≡ both_false + gained (standing a x ts)
    unfolding both_false false_then_true
    N_before =
        omega (arith, gains, false_copies a ts, count_split_right (literal_true (flip a x)) (λ k. not (literal_true a k)) (copies ts))

    N_after : N (flip a x) ts ≡ both_false + lost (standing a x ts)
    unfolding both_false true_then_false
    N_after =
        omega (arith, loses, false_copies (flip a x) ts, count_split (literal_true a) (λ k. not (literal_true (flip a x) k)) (copies ts))

    -- P after a flip, without counting anew.
    pub P_flipped : P (flip a x) ts + lost (standing a x ts) ≡ P a ts + gained (standing a x ts)
    P_flipped = omega (arith, P_before, P_after)

-- ---- the false parts of a rule

-- Parts that pass a test everywhere are the choices among the copies that pass it.
parts_passing : (q : Literal → Bool) (r : Rule) → count (all q) (parts r) ≡ over (count q (copies r.terms)) (size_a r) + over (count q (map opposite (copies r.terms))) (size_b r)
unfolding parts
parts_passing q r =
    count_append (all q) (choices (size_a r) (copies r.terms)) (choices (size_b r) (map opposite (copies r.terms)))
    ∙ ap₂ ◌+◌ (count_choices q (size_a r) (copies r.terms)) (count_choices q (size_b r) (map opposite (copies r.terms)))

false_parts : (a : Assignment) (r : Rule) → count (is_false a) (parts r) ≡ over (N a r.terms) (size_a r) + over (P a r.terms) (size_b r)
unfolding is_false
false_parts a r =
    count_same (is_false a) (all (λ k. not (literal_true a k))) (parts r) (false_part a)
    ∙ parts_passing (λ k. not (literal_true a k)) r
    ∙ ap₂ (λ n p. over n (size_a r) + over p (size_b r)) (false_copies a r.terms) (false_opposites a r.terms)

left_parts : (a : Assignment) (x : ℕ) (r : Rule) → count (leaves a x) (parts r) ≡ over (both_false a x r.terms) (size_a r) + over (both_true a x r.terms) (size_b r)
unfolding leaves both_false both_true
left_parts a x r =
    count_same (leaves a x) (all q) (parts r) each
    ∙ parts_passing q r
    ∙ ap (λ p. over (both_false a x r.terms) (size_a r) + over p (size_b r)) opposites
  where
    b : Assignment
    b = flip a x

    q : Literal → Bool
    q k = not (literal_true a k) and not (literal_true b k)

    each : (c : Part) → leaves a x c ≡ all q c
    each c = ap₂ ◌and◌ (false_part a c) (false_part b c) ∙ sym (all_and (λ k. not (literal_true a k)) (λ k. not (literal_true b k)) c)

    opposites : count q (map opposite (copies r.terms)) ≡ both_true a x r.terms
    opposites =
        count_map q opposite (copies r.terms)
        ∙ count_same (λ k. q (opposite k)) (λ k. literal_true a k and literal_true b k) (copies r.terms) (λ k. ap₂ ◌and◌ (opposite_false a k) (opposite_false b k))

-- ---- (10), (11), (12)

-- What a flip spoils, mends and leaves is what the equations say.
pub record Equal (s : Shares) (spoiledParts mendedParts leftParts : ℕ) : Type 0 where
  pub spoiled : spoiledParts ≡ s.e
  pub mended : mendedParts ≡ s.f
  pub left : leftParts ≡ s.g

-- From t and n, the true and the false weight that a flip does not touch, and what it touches.
from_unmoved : (s : Standing) (t n e f g : ℕ) (A B : Bound ℕ) → e + g ≡ over (n + lost s) A + over (t + gained s) B → f + g ≡ over (n + gained s) A + over (t + lost s) B → g ≡ over n A + over t B → Equal (shares s (n + gained s) (t + lost s) A B) e f g
unfolding shares lost gained
from_unmoved out t n e f g A B i j k =
    let i' = simp add-zero at i in
    let j' = simp add-zero at j in
    record { spoiled = omega arith; mended = omega arith; left = simp add-zero k }
from_unmoved (on w) t n e f g A B i j k =
    let i' = simp add-zero at i in
    let j' = simp add-zero at j in
    record { spoiled = simp add-zero (omega arith); mended = simp add-sub_cancel (omega arith); left = simp (add-zero, add-sub_cancel) k }
from_unmoved (off w) t n e f g A B i j k =
    let i' = simp add-zero at i in
    let j' = simp add-zero at j in
    record { spoiled = simp add-zero (omega arith); mended = simp add-sub_cancel (omega arith); left = simp (add-zero, add-sub_cancel) (omega arith) }

pub equations : (a : Assignment) (x : ℕ) (r : Rule) → T (rising r.terms) → 0 < x → x ≤ length a → Equal (shares_of a x r) (count (spoils a x) (parts r)) (count (mends a x) (parts r)) (count (leaves a x) (parts r))
unfolding shares_of
equations a x r rises low high =
    rw (N_before a x ts rises low high, P_before a x ts rises low high) (from_unmoved (standing a x ts) (both_true a x ts) (both_false a x ts) _ _ _ (size_a r) (size_b r) after before (left_parts a x r))
  where
    ts : List Term
    ts = r.terms

    sum : ℕ → ℕ → ℕ
    sum n p = over n (size_a r) + over p (size_b r)

    after : count (spoils a x) (parts r) + count (leaves a x) (parts r) ≡ sum (both_false a x ts + lost (standing a x ts)) (both_true a x ts + gained (standing a x ts))
    after =
        spoiled_and_left a x (parts r) ∙ false_parts (flip a x) r ∙ ap₂ sum (N_after a x ts rises low high) (P_after a x ts rises low high)

    before : count (mends a x) (parts r) + count (leaves a x) (parts r) ≡ sum (both_false a x ts + gained (standing a x ts)) (both_true a x ts + lost (standing a x ts))
    before =
        mended_and_left a x (parts r) ∙ false_parts a r ∙ ap₂ sum (N_before a x ts rises low high) (P_before a x ts rises low high)

-- ---- (6) and (7) by the equations, and a plan's counts

-- Two products are equal where the factors are, at least for rules that pass a test all pass.
product_each : (p : Rule → Bool) (f g : Rule → ℕ) (c : Clause) → ((r : Rule) → T (p r) → f r ≡ g r) → T (all p c) → product f c ≡ product g c
unfolding product all
product_each p f g [] h t = refl
product_each p f g (r ∷ rs) h t =
    ap₂ ◌*◌ (h r (and_left (p r) (all p rs) t)) (product_each p f g rs h (and_right (p r) (all p rs) t))

-- Both formulas at once: d and d' are the parts that one of e and f counts.
formula : (a : Assignment) (x : ℕ) (c : Clause) (d d' : Rule → ℕ) → ((r : Rule) → T (rising r.terms) → d r ≡ d' r) → T (all (λ r. rising r.terms) c) → 0 < x → x ≤ length a → product (λ r. d r + count (leaves a x) (parts r)) c - product (λ r. count (leaves a x) (parts r)) c ≡ product (λ r. d' r + (shares_of a x r).g) c - product (λ r. (shares_of a x r).g) c
formula a x c d d' same t low high =
    ap₂ ◌-◌ (product_each (λ r. rising r.terms) (λ r. d r + count (leaves a x) (parts r)) (λ r. d' r + (shares_of a x r).g) c (λ r h. ap₂ ◌+◌ (same r h) (left r h)) t)
    (product_each (λ r. rising r.terms) (λ r. count (leaves a x) (parts r)) (λ r. (shares_of a x r).g) c left t)
  where
    left : (r : Rule) → T (rising r.terms) → count (leaves a x) (parts r) ≡ (shares_of a x r).g
    left r h = (equations a x r h low high).left

pub clause_break_formula : (a : Assignment) (x : ℕ) (c : Clause) → T (all (λ r. rising r.terms) c) → 0 < x → x ≤ length a → count (spoils a x) (expand_clause c) ≡ clause_break a x c
unfolding clause_break
clause_break_formula a x c t low high =
    clause_break_lem a x c ∙ formula a x c (λ r. count (spoils a x) (parts r)) (λ r. (shares_of a x r).e) (λ r h. (equations a x r h low high).spoiled) t low high

pub clause_make_formula : (a : Assignment) (x : ℕ) (c : Clause) → T (all (λ r. rising r.terms) c) → 0 < x → x ≤ length a → count (mends a x) (expand_clause c) ≡ clause_make a x c
unfolding clause_make
clause_make_formula a x c t low high =
    clause_make_lem a x c ∙ formula a x c (λ r. count (mends a x) (parts r)) (λ r. (shares_of a x r).f) (λ r h. (equations a x r h low high).mended) t low high

pub break_formula : (p : Plan) (a : Assignment) (x : ℕ) → T (numbers_rise p) → 0 < x → x ≤ length a → break_count p a x ≡ break_sum p a x
unfolding numbers_rise break_sum
break_formula p a x t low high =
    break_by_clauses p a x
    ∙ sum_by_each (all (λ r. rising r.terms)) (λ c. count (spoils a x) (expand_clause c)) (clause_break a x) p.clauses (λ c h. clause_break_formula a x c h low high) t

pub make_formula : (p : Plan) (a : Assignment) (x : ℕ) → T (numbers_rise p) → 0 < x → x ≤ length a → make_count p a x ≡ make_sum p a x
unfolding numbers_rise make_sum
make_formula p a x t low high =
    make_by_clauses p a x
    ∙ sum_by_each (all (λ r. rising r.terms)) (λ c. count (mends a x) (expand_clause c)) (clause_make a x) p.clauses (λ c h. clause_make_formula a x c h low high) t
