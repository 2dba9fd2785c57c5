-- A flip changes P of each rule that names its variable, by a weight that is not 0, and of no other.
-- Assumes nothing.
use Prim.Native.Nat.{ℕ, suc, ◌+◌, ◌≤◌, ◌<◌}
use native.Mathlib.Omega.{arith}
use mathlib.Core.Path.{◌≡◌, refl, sym, ap, ap₂, ◌∙◌}
use mathlib.Core.Bool.{Bool, true, false, cond, true≢false}
use mathlib.Core.List.{List, [], ◌∷◌, ◌++◌, map}
use lib.Dec.{T, eqb}
use lib.IntN.{ℤ}
use lib.ListN.{length, length-append}
use borrow.Author.Tests.{eq-eqb, ne_eqb}
use Rattle.plpb.specs.Lists.{◌and◌, ◌or◌, any, all, count}
use Rattle.plpb.specs.Plan.{absent, present, Term, Rule, Clause, Plan, Assignment, flip, is_variable, named_in}
use Rattle.plpb.specs.Normal.{literal, literal_true, size, P}
use Rattle.plpb.specs.Equations.{on, off, standing, lost, gained}
use Rattle.plpb.specs.Tallies.{rules_of, fresh_count, rules_named}
use Rattle.plpb.specs.Search.{tightened}
use Rattle.plpb.proofs.Lists.{count_nil, count_cons, all_concat, all_append, concat_last}
use Rattle.plpb.proofs.Equations.{P_flipped}
use Rattle.plpb.proofs.Unnamed.{unnamed_P}
use Rattle.plpb.proofs.Locks.{variable_range}
use Rattle.order.proofs.Occurrences.{named_at_most}
use Rattle.format.specs.Limits.{max_rules, terms_lawful, rule_lawful, lawful, term_within}
use Rattle.format.proofs.Bools.{and_left, and_right, and_join, true_T}
use Rattle.format.proofs.Lawful.{weight_some, LawfulTerms, terms_parts, terms_whole, rule_parts, clause_lawful, clause_rules, LawfulPlan, plan_parts}
use Rattle.flips.specs.Rewritten.{differing, rewritten, Rewrites, FewRewritten}

-- ---- one rule

-- The term that names x has a weight.
moves : (a : Assignment) (x n : ℕ) (ts : List Term) → all (term_within n) ts ≡ true → named_in x ts ≡ true → lost (standing a x ts) ≡ gained (standing a x ts) → ⊥
unfolding all named_in any standing lost gained ◌or◌ term_within size
moves a x n [] w h e = true≢false (sym h)
moves a x n (t ∷ ts) w h e = at (eqb t.variable x) (moves a x n ts (and_right _ _ w)) h e
  where
    some : 0 < size t
    some = weight_some t.weight (and_right _ _ (and_left _ _ w))

    weighed : (b : Bool) → lost (cond b (on (size t)) (off (size t))) ≡ gained (cond b (on (size t)) (off (size t))) → ⊥
    weighed true k = omega (arith, some)
    weighed false k = omega (arith, some)

    at : (b : Bool) → (any (λ u. eqb u.variable x) ts ≡ true → lost (standing a x ts) ≡ gained (standing a x ts) → ⊥) → (b or any (λ u. eqb u.variable x) ts) ≡ true → lost (cond b (cond (literal_true a (literal t)) (on (size t)) (off (size t))) (standing a x ts)) ≡ gained (cond b (cond (literal_true a (literal t)) (on (size t)) (off (size t))) (standing a x ts)) → ⊥
    at true ih g k = weighed (literal_true a (literal t)) k
    at false ih g k = ih g k

module _ (a : Assignment) (x n : ℕ) (low : 0 < x) (high : x ≤ length a) where
  -- P of a rule differs after the flip where the rule names x.
  one_differs : (q : Rule) → terms_lawful n q.terms ≡ true → ◌≡◌ {A = ℕ} (cond (eqb (P a q.terms) (P (flip a x) q.terms)) 0 1) (cond (named_in x q.terms) 1 0)
  one_differs q h = at (named_in x q.terms) refl
    where
      lawful_terms : LawfulTerms n q.terms
      lawful_terms = terms_parts n q.terms h

      at : (b : Bool) → named_in x q.terms ≡ b → ◌≡◌ {A = ℕ} (cond (eqb (P a q.terms) (P (flip a x) q.terms)) 0 1) (cond b 1 0)
      at true e =
          let k = P_flipped a x q.terms (true_T _ lawful_terms.rise) low high in
          rw (ne_eqb (P a q.terms) (P (flip a x) q.terms) (λ s. moves a x n q.terms lawful_terms.within e (omega (arith, k, s))))
      at false e = rw (eq-eqb (P a q.terms) (P (flip a x) q.terms) (sym (unnamed_P a x q e)))

  rules_differ : (qs : List Rule) → all (λ q. terms_lawful n q.terms) qs ≡ true
      → differing (map (λ q. P a q.terms) qs) (map (λ q. P (flip a x) q.terms) qs) ≡ count (λ q. named_in x q.terms) qs
  unfolding differing all
  rules_differ [] h = sym (count_nil (λ (q : Rule). named_in x q.terms))
  rules_differ (q ∷ qs) h =
      ap₂ ◌+◌ (one_differs q (and_left _ _ h)) (rules_differ qs (and_right _ _ h)) ∙ sym (count_cons (λ (r : Rule). named_in x r.terms) q qs)

-- ---- a plan, and one with the objective clause

all_named : (p : Plan) (x n : ℕ) → 0 < x → x ≤ p.variables → all (λ q. terms_lawful n q.terms) (rules_of p) ≡ true
    → (a : Assignment) → length a ≡ p.variables → rewritten p a x ≡ rules_named p x
unfolding rewritten fresh_count rules_named
all_named p x n low high h a e = rules_differ a x n low (omega (arith, high, e)) (rules_of p) h

each_lawful : (n : ℕ) (qs : List Rule) → all (rule_lawful n) qs ≡ true → all (λ q. terms_lawful n q.terms) qs ≡ true
unfolding all
each_lawful n [] h = refl
each_lawful n (q ∷ qs) h =
    and_join _ _ (terms_whole n q.terms (rule_parts n q (and_left _ _ h)).terms) (each_lawful n qs (and_right _ _ h))

each_clause : (n : ℕ) (ks : List Clause) → all (clause_lawful n) ks ≡ true → all (all (rule_lawful n)) ks ≡ true
unfolding all
each_clause n [] h = refl
each_clause n (k ∷ ks) h = and_join _ _ (clause_rules n k (and_left _ _ h)) (each_clause n ks (and_right _ _ h))

module _ (p : Plan) (x : ℕ) (t : T (lawful p)) (v : is_variable p x ≡ true) where
  parts : LawfulPlan p
  parts = plan_parts p t

  rules_lawful : all (λ q. terms_lawful p.variables q.terms) (rules_of p) ≡ true
  unfolding rules_of
  rules_lawful =
      each_lawful p.variables (rules_of p) (all_concat (rule_lawful p.variables) p.clauses ∙ each_clause p.variables p.clauses parts.clauses)

  plain : Rewrites max_rules p x
  plain =
      let r = variable_range p x v in
      record {
        each_named = all_named p x p.variables r.0 r.1 rules_lawful;
        few = omega (arith, named_at_most p x, parts.rule_count);
      }

  module _ (m : ℤ) where
    added : Rule
    added = record { lower = absent; upper = present m; terms = p.objective }

    rules_added : rules_of (tightened p m) ≡ rules_of p ++ (added ∷ [])
    unfolding rules_of tightened added
    rules_added = concat_last p.clauses (added ∷ [])

    with_objective : Rewrites (suc max_rules) (tightened p m) x
    unfolding added tightened all ◌and◌
    with_objective =
        let r = variable_range p x v in
        let size = ap length rules_added ∙ length-append (rules_of p) (added ∷ []) in
        record {
          each_named = all_named (tightened p m) x p.variables r.0 r.1 (ap (all (λ q. terms_lawful p.variables q.terms)) rules_added ∙ both);
          few = omega (arith, named_at_most (tightened p m) x, size, parts.rule_count);
        }
      where
        both : all (λ q. terms_lawful p.variables q.terms) (rules_of p ++ (added ∷ [])) ≡ true
        both = all_append (λ (q : Rule). terms_lawful p.variables q.terms) (rules_of p) (added ∷ []) ∙ and_join _ _ rules_lawful (and_join _ _ (terms_whole p.variables p.objective parts.objective) refl)

pub few_rewritten : FewRewritten
few_rewritten p x t v = (plain p x t v, with_objective p x t v)
