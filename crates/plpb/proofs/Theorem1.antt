-- Theorem 1 of paper 004, equations (6) and (7): a joined part is false exactly where each of its parts is, so the false ones are counted by
-- products; those false after a flip are the spoiled and the left ones, those false before it the mended and the left ones.
use Prim.Native.Nat.{ℕ, ◌+◌, ◌*◌, ◌-◌}
use native.Mathlib.Nat.{add_comm, one-mul, zero-mul}
use native.Mathlib.Omega.{arith}
use mathlib.Core.Path.{◌≡◌, refl, sym, ap, ap₂, ◌∙◌, fun_ext}
use mathlib.Core.Bool.{Bool, true, false, not, cond}
use mathlib.Core.List.{List, [], ◌∷◌, ◌++◌, map}
use Rattle.plpb.specs.Lists.{◌and◌, count, any, sum_by}
use Rattle.plpb.specs.Plan.{Clause, Plan, Assignment, flip}
use Rattle.plpb.specs.Expansion.{Part, parts, joined, expand_clause, expansion, is_true, spoils, mends, leaves, break_count, make_count}
use Rattle.plpb.specs.Equations.{product}
use Rattle.plpb.proofs.Lists.{count_nil, count_cons, count_concat, count_map, count_same, count_split, count_split_right, count_false, count_is_sum, sum_by_map, sum_by_same, sum_by_times, and_middle, not_or, true_and, false_and}
use Rattle.plpb.proofs.Theorem2.{joined_true}

-- ---- counts over joined parts

-- A test that a joined part passes exactly where both its parts do, and the empty one passes.
pub record Splits (m : Part → Bool) : Type 0 where
  pub empty : m [] ≡ true
  pub join : (p q : Part) → m (p ++ q) ≡ m p and m q

module _ (m : Part → Bool) (s : Splits m) where
  beside : (b : Bool) (qs : List Part) → count (λ q. b and m q) qs ≡ cond b 1 0 * count m qs
  beside true qs = count_same (λ q. true and m q) m qs (λ q. true_and (m q)) ∙ sym (one-mul (count m qs))
  beside false qs = count_same (λ q. false and m q) (λ q. false) qs (λ q. false_and (m q)) ∙ count_false qs ∙ sym (zero-mul (count m qs))

  pub count_joined : (ps qs : List Part) → count m (joined ps qs) ≡ count m ps * count m qs
  unfolding joined
  count_joined ps qs =
      count_concat m (map (λ p. map (λ q. p ++ q) qs) ps)
      ∙ sum_by_map (count m) (λ p. map (λ q. p ++ q) qs) ps
      ∙ sum_by_same (λ p. count m (map (λ q. p ++ q) qs)) (λ p. cond (m p) 1 0 * count m qs) ps each
      ∙ sum_by_times (λ p. cond (m p) 1 0) (count m qs) ps
      ∙ ap (λ n. n * count m qs) (sym (count_is_sum m ps))
    where
      each : (p : Part) → count m (map (λ q. p ++ q) qs) ≡ cond (m p) 1 0 * count m qs
      each p =
          count_map m (λ q. p ++ q) qs
          ∙ count_same (λ q. m (p ++ q)) (λ q. m p and m q) qs (s.join p)
          ∙ beside (m p) qs

  pub count_expanded : (c : Clause) → count m (expand_clause c) ≡ product (λ r. count m (parts r)) c
  unfolding expand_clause product
  count_expanded [] = simp (count_cons, s.empty, count_nil)
  count_expanded (r ∷ rs) = count_joined (parts r) (expand_clause rs) ∙ ap (λ n. count m (parts r) * n) (count_expanded rs)

-- ---- false before a flip, false after it, false both times

unfoldable pub is_false : Assignment → Part → Bool
is_false a c = not (is_true a c)

pub false_splits : (a : Assignment) → Splits (is_false a)
unfolding is_false is_true any
false_splits a = record {
  empty = refl;
  join = λ p q. ap not (joined_true a p q) ∙ not_or (is_true a p) (is_true a q);
}

both_split : (m n : Part → Bool) → Splits m → Splits n → Splits (λ c. m c and n c)
both_split m n s t = record {
  empty = ap₂ ◌and◌ s.empty t.empty ∙ true_and true;
  join = λ p q. ap₂ ◌and◌ (s.join p q) (t.join p q) ∙ and_middle (m p) (m q) (n p) (n q);
}

pub left_splits : (a : Assignment) (x : ℕ) → Splits (leaves a x)
unfolding leaves is_false
left_splits a x = both_split (is_false a) (is_false (flip a x)) (false_splits a) (false_splits (flip a x))

pub spoiled_and_left : (a : Assignment) (x : ℕ) (cs : List Part) → count (spoils a x) cs + count (leaves a x) cs ≡ count (is_false (flip a x)) cs
unfolding spoils leaves is_false
spoiled_and_left a x cs =
    add_comm (count (spoils a x) cs) (count (leaves a x) cs) ∙ count_split (is_true a) (is_false (flip a x)) cs

pub mended_and_left : (a : Assignment) (x : ℕ) (cs : List Part) → count (mends a x) cs + count (leaves a x) cs ≡ count (is_false a) cs
unfolding mends leaves is_false
mended_and_left a x cs =
    add_comm (count (mends a x) cs) (count (leaves a x) cs) ∙ count_split_right (is_true (flip a x)) (is_false a) cs

-- ---- (6) and (7)

-- Of those that pass q, some pass p and the others r.
by_products : (p q r : Part → Bool) → ((cs : List Part) → count p cs + count r cs ≡ count q cs) → Splits q → Splits r → (c : Clause) → count p (expand_clause c) + product (λ s. count r (parts s)) c ≡ product (λ s. count p (parts s) + count r (parts s)) c
by_products p q r add t u c =
    ap (λ n. count p (expand_clause c) + n) (sym (count_expanded r u c))
    ∙ add (expand_clause c)
    ∙ count_expanded q t c
    ∙ ap (λ f. product f c) (fun_ext (λ s. sym (add (parts s))))

module _ (a : Assignment) (x : ℕ) (c : Clause) where
  pub spoiled_products : count (spoils a x) (expand_clause c) + product (λ r. count (leaves a x) (parts r)) c ≡ product (λ r. count (spoils a x) (parts r) + count (leaves a x) (parts r)) c
  spoiled_products =
      by_products (spoils a x) (is_false (flip a x)) (leaves a x) (spoiled_and_left a x) (false_splits (flip a x)) (left_splits a x) c

  pub mended_products : count (mends a x) (expand_clause c) + product (λ r. count (leaves a x) (parts r)) c ≡ product (λ r. count (mends a x) (parts r) + count (leaves a x) (parts r)) c
  mended_products =
      by_products (mends a x) (is_false a) (leaves a x) (mended_and_left a x) (false_splits a) (left_splits a x) c

  pub clause_break_lem : count (spoils a x) (expand_clause c) ≡ product (λ r. count (spoils a x) (parts r) + count (leaves a x) (parts r)) c - product (λ r. count (leaves a x) (parts r)) c
  clause_break_lem = omega (arith, spoiled_products)

  pub clause_make_lem : count (mends a x) (expand_clause c) ≡ product (λ r. count (mends a x) (parts r) + count (leaves a x) (parts r)) c - product (λ r. count (leaves a x) (parts r)) c
  clause_make_lem = omega (arith, mended_products)

-- ---- a plan's counts are sums over its clauses

by_clauses_lem : (t : Part → Bool) (p : Plan) → count t (expansion p) ≡ sum_by (λ c. count t (expand_clause c)) p.clauses
unfolding expansion
by_clauses_lem t p = count_concat t (map expand_clause p.clauses) ∙ sum_by_map (count t) expand_clause p.clauses

pub break_by_clauses : (p : Plan) (a : Assignment) (x : ℕ) → break_count p a x ≡ sum_by (λ c. count (spoils a x) (expand_clause c)) p.clauses
unfolding break_count count
break_by_clauses p a x = by_clauses_lem (spoils a x) p

pub make_by_clauses : (p : Plan) (a : Assignment) (x : ℕ) → make_count p a x ≡ sum_by (λ c. count (mends a x) (expand_clause c)) p.clauses
unfolding make_count count
make_by_clauses p a x = by_clauses_lem (mends a x) p
