-- Theorem 2 of paper 004: a rule holds exactly where all its parts are true, because a part can be false only if all its literals are, and so
-- a bound's parts are all true exactly where fewer copies are false than a part has; likewise for a clause and a plan and their expansions.
use Prim.Native.Nat.{ℕ}
use mathlib.Core.Path.{◌≡◌, refl, sym, ap, ap₂, ◌∙◌}
use mathlib.Core.Bool.{not}
use mathlib.Core.List.{List, [], ◌∷◌, ◌++◌, map}
use lib.Dec.{eqb}
use Rattle.plpb.specs.Lists.{◌and◌, ◌or◌, count, any, all}
use Rattle.plpb.specs.Plan.{Bound, absent, present, Rule, Clause, Plan, Assignment, total, at_least, at_most, rule_holds, clause_holds, satisfies}
use Rattle.plpb.specs.Normal.{Literal, opposite, literal_true, copies, size_a, size_b, below_size}
use Rattle.plpb.specs.Expansion.{Part, choose, choices, parts, joined, expand_clause, expansion, is_true}
use Rattle.plpb.proofs.Lists.{count_same, not_any, all_by_count, all_append, all_concat, all_map, all_same, all_or_left, all_or_right, any_append}
use Rattle.plpb.proofs.Normal.{lower_by_size, upper_by_size}
use Rattle.plpb.proofs.Choices.{count_choose, binom_zero, false_copies, false_opposites}

-- ---- rules

pub false_part : (a : Assignment) (c : Part) → not (is_true a c) ≡ all (λ k. not (literal_true a k)) c
unfolding is_true
false_part a c = not_any (literal_true a) c

choices_true : (a : Assignment) (b : Bound ℕ) (ks : List Literal) → all (is_true a) (choices b ks) ≡ below_size (count (λ k. not (literal_true a k)) ks) b
unfolding choices below_size all
choices_true a absent ks = refl
choices_true a (present k) ks =
    all_by_count (is_true a) (choose k ks)
    ∙ ap (λ n. eqb n 0) (count_same (λ c. not (is_true a c)) (all (λ k. not (literal_true a k))) (choose k ks) (false_part a) ∙ count_choose (λ k. not (literal_true a k)) k ks)
    ∙ binom_zero (count (λ k. not (literal_true a k)) ks) k

pub rule_holds_lem : (a : Assignment) (r : Rule) → rule_holds a r ≡ all (is_true a) (parts r)
unfolding rule_holds parts
rule_holds_lem a r =
    ap₂ ◌and◌ lower upper ∙ sym (all_append (is_true a) (choices (size_a r) (copies r.terms)) (choices (size_b r) (map opposite (copies r.terms))))
  where
    lower : at_least r.lower (total a r.terms) ≡ all (is_true a) (choices (size_a r) (copies r.terms))
    lower = lower_by_size a r ∙ sym (choices_true a (size_a r) (copies r.terms) ∙ ap (λ n. below_size n (size_a r)) (false_copies a r.terms))

    upper : at_most r.upper (total a r.terms) ≡ all (is_true a) (choices (size_b r) (map opposite (copies r.terms)))
    upper = upper_by_size a r ∙ sym (choices_true a (size_b r) (map opposite (copies r.terms)) ∙ ap (λ n. below_size n (size_b r)) (false_opposites a r.terms))

-- ---- clauses

pub joined_true : (a : Assignment) (p q : Part) → is_true a (p ++ q) ≡ is_true a p or is_true a q
unfolding is_true
joined_true a p q = any_append (literal_true a) p q

all_joined : (a : Assignment) (ps qs : List Part) → all (is_true a) (joined ps qs) ≡ all (is_true a) ps or all (is_true a) qs
unfolding joined
all_joined a ps qs =
    all_concat (is_true a) (map (λ p. map (λ q. p ++ q) qs) ps)
    ∙ all_map (all (is_true a)) (λ p. map (λ q. p ++ q) qs) ps
    ∙ all_same (λ p. all (is_true a) (map (λ q. p ++ q) qs)) (λ p. is_true a p or all (is_true a) qs) ps each
    ∙ all_or_right (is_true a) (all (is_true a) qs) ps
  where
    each : (p : Part) → all (is_true a) (map (λ q. p ++ q) qs) ≡ is_true a p or all (is_true a) qs
    each p =
        all_map (is_true a) (λ q. p ++ q) qs
        ∙ all_same (λ q. is_true a (p ++ q)) (λ q. is_true a p or is_true a q) qs (joined_true a p)
        ∙ all_or_left (is_true a p) (is_true a) qs

pub clause_holds_lem : (a : Assignment) (c : Clause) → clause_holds a c ≡ all (is_true a) (expand_clause c)
unfolding clause_holds any all is_true ◌and◌ expand_clause
clause_holds_lem a [] = refl
clause_holds_lem a (r ∷ rs) = ap₂ ◌or◌ (rule_holds_lem a r) (clause_holds_lem a rs) ∙ sym (all_joined a (parts r) (expand_clause rs))

pub plan_satisfied : (a : Assignment) (p : Plan) → satisfies a p ≡ all (is_true a) (expansion p)
unfolding satisfies expansion
plan_satisfied a p =
    all_same (clause_holds a) (λ c. all (is_true a) (expand_clause c)) p.clauses (clause_holds_lem a)
    ∙ sym (all_concat (is_true a) (map expand_clause p.clauses) ∙ all_map (all (is_true a)) expand_clause p.clauses)
