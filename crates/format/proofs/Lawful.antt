-- The parts of what makes terms, rules, clauses and plans lawful, as facts: each test is taken apart and put together by 'and'.
use Prim.Native.Nat.{ℕ, ◌+◌, ◌≤◌, ◌<◌}
use mathlib.Core.Path.{◌≡◌, refl}
use mathlib.Core.Bool.{Bool, true, not}
use mathlib.Core.List.{List, [], ◌∷◌}
use native.Mathlib.Omega.{arith}
use lib.Dec.{T, leb, ltb}
use lib.IntN.{ℤ, nat_abs}
use lib.ListN.{length}
use borrow.Author.Tests.{leb-true, ltb-true, le-leb}
use Rattle.plpb.specs.Lists.{◌and◌, all, is_empty}
use Rattle.plpb.specs.Plan.{Term, Rule, Clause, Plan, rising_above, rising}
use Rattle.plpb.specs.Tallies.{rules_of}
use Rattle.format.specs.Limits.{max_variables, weight_lawful, terms_lawful, lock_terms, rule_lawful, term_count, within, lawful, roomy}
use Rattle.format.proofs.Bools.{and_left, and_right, and_join, T_true, true_T}
use Rattle.format.proofs.Bounds.{both_lawful}
use Rattle.format.specs.Layout.{clause_room, rule_room, term_room}
unfoldable pub use Rattle.format.specs.Limits.{term_within}

pub weight_small : (w : ℤ) → weight_lawful w ≡ true → nat_abs w ≤ 1_000_000
unfolding weight_lawful
weight_small w h = leb-true _ _ (and_right (ltb 0 (nat_abs w)) (leb (nat_abs w) 1_000_000) h)

pub weight_some : (w : ℤ) → weight_lawful w ≡ true → 0 < nat_abs w
unfolding weight_lawful
weight_some w h = ltb-true _ _ (and_left (ltb 0 (nat_abs w)) (leb (nat_abs w) 1_000_000) h)

-- Terms of which the numbers rise are not more than the numbers that there are.
pub terms_short : (n v : ℕ) (ts : List Term) → rising_above v ts ≡ true → all (term_within n) ts ≡ true → v ≤ n → v + length ts ≤ n
unfolding rising_above all term_within
terms_short n v [] r w h = omega arith
terms_short n v (t ∷ ts) r w h =
    let a : v < t.variable = ltb-true _ _ (and_left _ _ r) in
    let b : t.variable ≤ n = leb-true _ _ (and_left _ _ (and_left _ _ w)) in
    let c = terms_short n t.variable ts (and_right _ _ r) (and_right _ _ w) b in
    omega arith

pub record LawfulTerms (n : ℕ) (ts : List Term) : Type 0 where
  pub rise : rising ts ≡ true
  pub within : all (term_within n) ts ≡ true

pub terms_parts : (n : ℕ) (ts : List Term) → terms_lawful n ts ≡ true → LawfulTerms n ts
unfolding terms_lawful term_within
terms_parts n ts h = record { rise = and_left _ _ h; within = and_right _ _ h }

pub terms_whole : (n : ℕ) (ts : List Term) → LawfulTerms n ts → terms_lawful n ts ≡ true
unfolding terms_lawful term_within
terms_whole n ts l = and_join _ _ l.rise l.within

pub record LawfulRule (n : ℕ) (r : Rule) : Type 0 where
  pub both : both_lawful r.lower r.upper ≡ true
  pub some : 0 < length r.terms
  pub terms : LawfulTerms n r.terms

some_length : {A : Type 0} (xs : List A) → not (is_empty xs) ≡ true → 0 < length xs
unfolding is_empty
some_length [] h = absurd (true_T _ h)
some_length (x ∷ xs) h = omega arith

length_some : {A : Type 0} (xs : List A) → 0 < length xs → not (is_empty xs) ≡ true
unfolding is_empty
length_some [] h = absurd (omega arith)
length_some (x ∷ xs) h = refl

pub rule_parts : (n : ℕ) (r : Rule) → rule_lawful n r ≡ true → LawfulRule n r
unfolding rule_lawful both_lawful
rule_parts n r h =
    record { both = and_left _ _ (and_left _ _ h); some = some_length r.terms (and_right _ _ (and_left _ _ h)); terms = terms_parts n r.terms (and_right _ _ h) }

pub rule_whole : (n : ℕ) (r : Rule) → LawfulRule n r → rule_lawful n r ≡ true
unfolding rule_lawful both_lawful
rule_whole n r l = and_join _ _ (and_join _ _ l.both (length_some r.terms l.some)) (terms_whole n r.terms l.terms)

unfoldable pub clause_lawful : ℕ → Clause → Bool
clause_lawful n c = not (is_empty c) and all (rule_lawful n) c

pub clause_some : (n : ℕ) (c : Clause) → clause_lawful n c ≡ true → 0 < length c
unfolding clause_lawful
clause_some n c h = some_length c (and_left _ _ h)

pub clause_rules : (n : ℕ) (c : Clause) → clause_lawful n c ≡ true → all (rule_lawful n) c ≡ true
unfolding clause_lawful
clause_rules n c h = and_right _ _ h

pub clause_whole : (n : ℕ) (c : Clause) → 0 < length c → all (rule_lawful n) c ≡ true → clause_lawful n c ≡ true
unfolding clause_lawful
clause_whole n c s h = and_join _ _ (length_some c s) h

pub record Within (clauseLimit ruleLimit termLimit : ℕ) (p : Plan) : Type 0 where
  pub low : 1 ≤ p.variables
  pub high : p.variables ≤ max_variables
  pub objective : LawfulTerms p.variables p.objective
  pub locks : LawfulTerms p.variables (lock_terms p)
  pub clauses : all (clause_lawful p.variables) p.clauses ≡ true
  pub clause_count : length p.clauses ≤ clauseLimit
  pub rule_count : length (rules_of p) ≤ ruleLimit
  pub terms : term_count p ≤ termLimit

module _ (C R K : ℕ) (p : Plan) where
  pub within_parts : T (within C R K p) → Within C R K p
  unfolding within clause_lawful
  within_parts t =
      let a = T_true _ t in
      let b = and_left _ _ a in
      let c = and_left _ _ b in
      let d = and_left _ _ c in
      let e = and_left _ _ d in
      let f = and_left _ _ e in
      record {
        low = leb-true _ _ (and_left _ _ (and_left _ _ f));
        high = leb-true _ _ (and_right _ _ (and_left _ _ f));
        objective = terms_parts _ _ (and_right _ _ f);
        locks = terms_parts _ _ (and_right _ _ e);
        clauses = and_right _ _ d;
        clause_count = leb-true _ _ (and_right _ _ c);
        rule_count = leb-true _ _ (and_right _ _ b);
        terms = leb-true _ _ (and_right _ _ a);
      }

  pub within_whole : Within C R K p → T (within C R K p)
  unfolding within clause_lawful
  within_whole l =
      true_T _
      (and_join _ _
      (and_join _ _
      (and_join _ _
      (and_join _ _
      (and_join _ _
      (and_join _ _ (and_join _ _ (le-leb _ _ l.low) (le-leb _ _ l.high)) (terms_whole _ _ l.objective))
      (terms_whole _ _ l.locks))
      l.clauses) (le-leb _ _ l.clause_count)) (le-leb _ _ l.rule_count)) (le-leb _ _ l.terms))

-- A plan that a file may hold, and one that the tables have room for.
abbrev pub LawfulPlan : Plan → Type 0
LawfulPlan p = Within 512 1_024 6_000 p

abbrev pub RoomyPlan : Plan → Type 0
RoomyPlan p = Within clause_room rule_room term_room p

pub plan_parts : (p : Plan) → T (lawful p) → LawfulPlan p
unfolding lawful
plan_parts p t = within_parts 512 1_024 6_000 p t

pub plan_whole : (p : Plan) → LawfulPlan p → T (lawful p)
unfolding lawful
plan_whole p l = within_whole 512 1_024 6_000 p l

pub roomy_parts : (p : Plan) → T (roomy p) → RoomyPlan p
unfolding roomy
roomy_parts p t = within_parts clause_room rule_room term_room p t

pub roomy_whole : (p : Plan) → RoomyPlan p → T (roomy p)
unfolding roomy
roomy_whole p l = within_whole clause_room rule_room term_room p l

pub room_for : (p : Plan) → LawfulPlan p → RoomyPlan p
room_for p l =
    record {
      low = l.low;
      high = l.high;
      objective = l.objective;
      locks = l.locks;
      clauses = l.clauses;
      clause_count = omega (arith, l.clause_count);
      rule_count = omega (arith, l.rule_count);
      terms = omega (arith, l.terms);
    }

pub lawful_roomy : (p : Plan) → T (lawful p) → T (roomy p)
lawful_roomy p t = roomy_whole p (room_for p (plan_parts p t))
