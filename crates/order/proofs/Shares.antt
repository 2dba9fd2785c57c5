-- Break and make counts by the rules that name the variable: a rule that does not name it brings g as a factor to both products, so a clause's count is that of
-- its rules that do, times the others' g.
use Prim.Native.Nat.{ℕ, suc, ◌+◌, ◌*◌, ◌-◌, ◌≤◌, ◌<◌}
use native.Mathlib.Nat.{zero-add, add-zero, mul_assoc, mul_comm, mul-sub, zero-mul, le_refl, le_trans, le-mul_of_pos_right}
use native.Mathlib.Omega.{arith}
use mathlib.Core.Path.{◌≡◌, refl, sym, ap, ap₂, ◌∙◌}
use mathlib.Core.Bool.{Bool, true, false, not, cond}
use mathlib.Core.List.{List, [], ◌∷◌, ◌++◌, map}
use lib.Dec.{T, ltb, ltb→lt}
use lib.ListN.{length, get_or}
use Rattle.plpb.specs.Lists.{◌or◌, keep, any, all, sum_by}
use Rattle.plpb.specs.Plan.{Rule, Clause, Plan, Assignment, rising, named_in, names}
use Rattle.plpb.specs.Equations.{shares_of, product, clause_break, clause_make, break_sum, make_sum}
use Rattle.plpb.proofs.Lists.{and_left, and_right, false_T}
use Rattle.order.specs.Order.{in_rules, no_rule, rule_at}
use Rattle.order.specs.Grouped.{naming, others}
use Rattle.plpb.proofs.Unnamed.{unnamed_shares}
use Rattle.order.proofs.Occurrences.{place_in, placed, terms_placed}

-- Π over the others leaves out e (or f), which is 0.
module _ (x : ℕ) (d g : Rule → ℕ) (none : (q : Rule) → named_in x q.terms ≡ false → d q ≡ 0) where
  product_parted : (k : Clause) → product (λ q. d q + g q) k ≡ product (λ q. d q + g q) (naming x k) * product g (others x k)
  unfolding product naming others keep
  product_parted [] = refl
  product_parted (q ∷ qs) = ap (λ n. (d q + g q) * n) (product_parted qs) ∙ at (named_in x q.terms) refl
    where
      A : ℕ
      A = product (λ q. d q + g q) (naming x qs)

      B : ℕ
      B = product g (others x qs)

      at : (b : Bool) → named_in x q.terms ≡ b → (d q + g q) * (A * B) ≡ product (λ q. d q + g q) (cond b (q ∷ naming x qs) (naming x qs)) * product g (cond (not b) (q ∷ others x qs) (others x qs))
      at true e = sym (mul_assoc (d q + g q) A B)
      at false e =
          let z : d q + g q ≡ g q = omega (arith, none q e) in
          rw z (sym (mul_assoc (g q) A B) ∙ ap (λ n. n * B) (mul_comm (g q) A) ∙ mul_assoc A (g q) B)

-- Two such products, one with e and one without.
parted_difference : (x : ℕ) (d g : Rule → ℕ) → ((q : Rule) → named_in x q.terms ≡ false → d q ≡ 0) → (k : Clause) → product (λ q. d q + g q) k - product g k ≡ (product (λ q. d q + g q) (naming x k) - product g (naming x k)) * product g (others x k)
parted_difference x d g none k =
    let after = product (λ q. d q + g q) (naming x k) in
    let left = product g (naming x k) in
    let rest = product g (others x k) in
    ap₂ ◌-◌ (product_parted x d g none k) alone
    ∙ ap₂ ◌-◌ (mul_comm after rest) (mul_comm left rest) ∙ sym (mul-sub rest after left) ∙ mul_comm rest (after - left)
  where
    alone : product g k ≡ product g (naming x k) * product g (others x k)
    alone = simp zero-add at (product_parted x (λ q. 0) g (λ q e. refl) k)

module _ (a : Assignment) (x : ℕ) (k : Clause) where
  -- (6) and (7) by the rules that name x.
  pub break_by_naming : clause_break a x k ≡ (product (λ q. (shares_of a x q).e + (shares_of a x q).g) (naming x k) - product (λ q. (shares_of a x q).g) (naming x k)) * product (λ q. (shares_of a x q).g) (others x k)
  unfolding clause_break
  break_by_naming = parted_difference x (λ q. (shares_of a x q).e) (λ q. (shares_of a x q).g) (λ q e. (unnamed_shares a x q e).0) k

  pub make_by_naming : clause_make a x k ≡ (product (λ q. (shares_of a x q).f + (shares_of a x q).g) (naming x k) - product (λ q. (shares_of a x q).g) (naming x k)) * product (λ q. (shares_of a x q).g) (others x k)
  unfolding clause_make
  make_by_naming = parted_difference x (λ q. (shares_of a x q).f) (λ q. (shares_of a x q).g) (λ q e. (unnamed_shares a x q e).1) k

-- ---- which rules these are

-- The rules of a clause's occurrences are its rules that name x: the plan's rules from r on are the clause's.
pub group_rules : (p : Plan) (x c r : ℕ) (k : List Rule) → T (all (λ q. rising q.terms) k) → ((i : ℕ) → i < length k → rule_at p (r + i) ≡ get_or k i no_rule) → map (λ q. rule_at p q.rule) (in_rules x c r k) ≡ naming x k
unfolding in_rules naming keep all placed
group_rules p x c r [] t h = refl
group_rules p x c r (q ∷ qs) t h =
    ap (λ us. map (λ q. rule_at p q.rule) (us ++ in_rules x c (suc r) qs)) (terms_placed x c r q.terms (and_left (rising q.terms) (all (λ q. rising q.terms) qs) t))
    ∙ at (named_in x q.terms) (group_rules p x c (suc r) qs (and_right (rising q.terms) (all (λ q. rising q.terms) qs) t) (λ i l. ap (rule_at p) (next i) ∙ h (suc i) (omega arith)))
  where
    next : (i : ℕ) → suc r + i ≡ r + suc i
    next i = omega arith

    here : rule_at p r ≡ q
    here = ap (rule_at p) (sym (add-zero r)) ∙ h 0 (omega arith)

    at : (b : Bool) → map (λ q. rule_at p q.rule) (in_rules x c (suc r) qs) ≡ keep (λ q. named_in x q.terms) qs → map (λ q. rule_at p q.rule) (cond b (record { clause = c; rule = r; term = place_in x q.terms } ∷ []) [] ++ in_rules x c (suc r) qs) ≡ cond b (q ∷ keep (λ q. named_in x q.terms) qs) (keep (λ q. named_in x q.terms) qs)
    at true e = ap₂ (λ u us. u ∷ us) here e
    at false e = e

-- Only clauses that name x count.
named_sum : (x : ℕ) (f : Clause → ℕ) → ((k : Clause) → names k x ≡ false → f k ≡ 0) → (ks : List Clause) → sum_by f ks ≡ sum_by f (keep (λ k. names k x) ks)
unfolding sum_by keep
named_sum x f none [] = refl
named_sum x f none (k ∷ ks) = ap (λ n. f k + n) (named_sum x f none ks) ∙ at (names k x) refl
  where
    at : (b : Bool) → names k x ≡ b → f k + sum_by f (keep (λ k. names k x) ks) ≡ sum_by f (cond b (k ∷ keep (λ k. names k x) ks) (keep (λ k. names k x) ks))
    at true e = refl
    at false e = ap (λ n. n + sum_by f (keep (λ k. names k x) ks)) (none k e) ∙ zero-add _

pub none_naming : (x : ℕ) (k : Clause) → names k x ≡ false → naming x k ≡ []
unfolding names naming keep any ◌or◌
none_naming x [] e = refl
none_naming x (q ∷ qs) e = at (named_in x q.terms) (none_naming x qs) e
  where
    at : (b : Bool) → (names qs x ≡ false → keep (λ q. named_in x q.terms) qs ≡ []) → b or names qs x ≡ false → cond b (q ∷ keep (λ q. named_in x q.terms) qs) (keep (λ q. named_in x q.terms) qs) ≡ []
    at true ih h = absurd (false_T h tt)
    at false ih h = ih h

module _ (p : Plan) (a : Assignment) (x : ℕ) where
  pub break_along : break_sum p a x ≡ sum_by (clause_break a x) (keep (λ k. names k x) p.clauses)
  unfolding break_sum product
  break_along = named_sum x (clause_break a x) (λ k e. break_by_naming a x k ∙ rw (none_naming x k e) (zero-mul _)) p.clauses

  pub make_along : make_sum p a x ≡ sum_by (clause_make a x) (keep (λ k. names k x) p.clauses)
  unfolding make_sum product
  make_along = named_sum x (clause_make a x) (λ k e. make_by_naming a x k ∙ rw (none_naming x k e) (zero-mul _)) p.clauses

-- ---- where a clause breaks, the others' factors are 1 and more: a count that is cut stays cut

pub others_some : (a : Assignment) (x : ℕ) (k : Clause) → T (all (λ q. ltb 0 ((shares_of a x q).e + (shares_of a x q).g)) k) → 1 ≤ product (λ q. (shares_of a x q).g) (others x k)
unfolding all others keep product
others_some a x [] t = le_refl 1
others_some a x (q ∷ qs) t =
    at (named_in x q.terms) refl (others_some a x qs (and_right (ltb 0 ((shares_of a x q).e + (shares_of a x q).g)) (all (λ q. ltb 0 ((shares_of a x q).e + (shares_of a x q).g)) qs) t))
  where
    g : Rule → ℕ
    g r = (shares_of a x r).g

    rest : Clause
    rest = keep (λ r. not (named_in x r.terms)) qs

    some : 0 < (shares_of a x q).e + (shares_of a x q).g
    some = ltb→lt 0 ((shares_of a x q).e + (shares_of a x q).g) (and_left (ltb 0 ((shares_of a x q).e + (shares_of a x q).g)) (all (λ q. ltb 0 ((shares_of a x q).e + (shares_of a x q).g)) qs) t)

    at : (b : Bool) → named_in x q.terms ≡ b → 1 ≤ product g rest → 1 ≤ product g (cond (not b) (q ∷ rest) rest)
    at true e h = h
    at false e h =
        let mine : 1 ≤ g q = omega (arith, some, (unnamed_shares a x q e).0) in
        le_trans mine (le-mul_of_pos_right (g q) h)
