-- What the rules of a lawful plan name: variables of the plan, in rising order, at places that a word of the order has room for.
-- Assumes nothing.
use Prim.Native.Nat.{ℕ, suc, ◌≤◌, ◌<◌}
use mathlib.Core.Path.{◌≡◌, refl}
use mathlib.Core.Bool.{Bool, true}
use mathlib.Core.List.{List, [], ◌∷◌, map}
use native.Mathlib.Omega.{arith}
use lib.Dec.{T}
use lib.ListN.{length, get_or}
use borrow.Author.Tests.{leb-true, ltb-true, lt-ltb}
use Rattle.plpb.specs.Lists.{all, concat}
use Rattle.plpb.specs.Plan.{Term, Rule, Clause, Plan, is_variable, rising_above, rising, numbers_rise}
use Rattle.plpb.specs.Tallies.{rules_of}
use Rattle.plpb.proofs.Lists.{all_at}
use Rattle.order.specs.Order.{Place, numbers_within, no_rule, rule_at, is_place}
use Rattle.order.proofs.Runs.{place_named, named_below}
use Rattle.order.proofs.Words.{Small}
use Rattle.format.specs.Limits.{rule_lawful, term_within}
use Rattle.format.proofs.Bools.{T_true, true_T, and_left, and_right, and_join}
use Rattle.format.proofs.Lists.{all_append}
use Rattle.format.proofs.Lawful.{terms_short, rule_parts, clause_lawful, clause_rules, RoomyPlan}

-- The rules of lawful clauses are lawful, and so are the terms of lawful rules.
pub rules_lawful : (n : ℕ) (cs : List Clause) → all (clause_lawful n) cs ≡ true → all (rule_lawful n) (concat cs) ≡ true
unfolding all concat
rules_lawful n [] h = refl
rules_lawful n (c ∷ cs) h = all_append (rule_lawful n) c (concat cs) (clause_rules n c (and_left _ _ h)) (rules_lawful n cs (and_right _ _ h))

pub terms_lawful_lem : (n : ℕ) (rs : List Rule) → all (rule_lawful n) rs ≡ true → all (term_within n) (concat (map (λ r. r.terms) rs)) ≡ true
unfolding all concat
terms_lawful_lem n [] h = refl
terms_lawful_lem n (r ∷ rs) h =
    all_append (term_within n) r.terms _ (rule_parts n r (and_left _ _ h)).terms.within (terms_lawful_lem n rs (and_right _ _ h))

-- What follows of each follows of all.
follows : {A : Type 0} (p q : A → Bool) → ((x : A) → p x ≡ true → q x ≡ true) → (xs : List A) → all p xs ≡ true → all q xs ≡ true
unfolding all
follows p q h [] t = refl
follows p q h (x ∷ xs) t = and_join _ _ (h x (and_left _ _ t)) (follows p q h xs (and_right _ _ t))

variables_within : (p : Plan) (v : ℕ) (ts : List Term) → rising_above v ts ≡ true → all (term_within p.variables) ts ≡ true → all (λ t. is_variable p t.variable) ts ≡ true
unfolding rising_above all term_within is_variable
variables_within p v [] r w = refl
variables_within p v (t ∷ ts) r w =
    let above : v < t.variable = ltb-true _ _ (and_left _ _ r) in
    let high : t.variable ≤ p.variables = leb-true _ _ (and_left _ _ (and_left _ _ w)) in
    and_join _ _ (and_join _ _ (lt-ltb 0 t.variable (omega arith)) (lt-ltb t.variable (suc p.variables) (omega arith)))
    (variables_within p t.variable ts (and_right _ _ r) (and_right _ _ w))

module _ (p : Plan) (l : RoomyPlan p) where
  pub each_rule_lawful : all (rule_lawful p.variables) (rules_of p) ≡ true
  unfolding rules_of
  each_rule_lawful = rules_lawful p.variables p.clauses l.clauses

  pub numbers_rise_lem : T (numbers_rise p)
  unfolding numbers_rise
  numbers_rise_lem =
      true_T _
      (follows (clause_lawful p.variables) (all (λ r. rising r.terms))
      (λ c h. follows (rule_lawful p.variables) (λ r. rising r.terms) (λ r k. (rule_parts p.variables r k).terms.rise) c (clause_rules p.variables c h)) p.clauses l.clauses)

  pub numbers_within_lem : T (numbers_within p)
  unfolding numbers_within rising
  numbers_within_lem =
      true_T _
      (follows (rule_lawful p.variables) (λ r. all (λ t. is_variable p t.variable) r.terms)
      (λ r k. let ts = (rule_parts p.variables r k).terms in variables_within p 0 r.terms ts.rise ts.within) (rules_of p) each_rule_lawful)

  -- A rule of the plan has no more terms than there are variables.
  pub rule_short : (r : ℕ) → r < length (rules_of p) → length (rule_at p r).terms ≤ 512
  unfolding rule_at rising
  rule_short r h =
      let ts = (rule_parts p.variables (get_or (rules_of p) r no_rule) (T_true _ (all_at (rule_lawful p.variables) (rules_of p) r no_rule (true_T _ each_rule_lawful) h))).terms in
      omega (arith, terms_short p.variables 0 (get_or (rules_of p) r no_rule).terms ts.rise ts.within (omega arith), l.high)

  -- A place that there is fits into a word.
  pub place_small : (q : Place) → T (is_place p q) → Small q
  place_small q t =
      let n = place_named p q t in
      let below = named_below p _ q n in
      record {
        clause = omega (arith, n.clause_there, l.clause_count);
        rule = omega (arith, below, l.rule_count);
        term = omega (arith, n.term_there, rule_short q.rule below);
      }
