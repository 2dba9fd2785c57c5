-- An accepted text's plan is lawful.
-- Assumes nothing.
use Prim.Native.Nat.{ℕ, ◌+◌, ◌≤◌}
use native.Mathlib.Omega.{arith}
use mathlib.Core.Path.{◌≡◌, refl, sym, ap, ◌∙◌}
use mathlib.Core.Bool.{Bool, true, false, not, cond}
use mathlib.Core.List.{List, [], ◌∷◌, map}
use lib.Dec.{T, leb, ltb, eqb}
use lib.IntN.{nat_abs}
use lib.ListN.{length, get_or, length-map}
use borrow.Author.Tests.{eqb-true, ne_eqb, ltb-false, leb-true, le-leb, not-false}
use Rattle.plpb.specs.Lists.{◌and◌, ◌or◌, all, keep, concat, sum_by, is_empty}
use Rattle.plpb.specs.Plan.{Plan, Rule, rising, rising_above}
use Rattle.plpb.specs.Tallies.{rules_of}
use Rattle.plpb.proofs.Lists.{sum_by_map}
use Rattle.format.specs.Limits.{terms_lawful, is_present, bound_lawful, rule_lawful, term_count, lawful}
use Rattle.format.specs.File.{Reading, refused, accepted, refuse}
use Rattle.format.proofs.Bools.{and_left, and_right, and_join}
use Rattle.format.proofs.Lawful.{LawfulPlan, clause_lawful, clause_whole, terms_parts, plan_whole}
use Rattle.statements.specs.Grammar.{is_comment, is_objective, is_constraint, sum_from, sum_at, sum_end, has_terms, is_bounded, constraint_formed, terms_in, is_exact, bound_at, rule_at}
use Rattle.opb_lines.specs.ReadText.{variables_in, constraints_in, first_formed, starts, objective_of, plan_of_text, objective_fault, constraint_fault, fault, judging, read_text}
use Rattle.opb_judge.proofs.Faults.{met_none, refused_zero, constraint_few}

refused_accepted : {A : Type 0} {n o : ℕ} {p : Plan} → ◌≡◌ {A = Reading Plan} (refused n o) (accepted p) → A
refused_accepted e = absurd (let z : ◌≡◌ {A = ℕ} 0 1 = cc in omega arith)

plan_same : {p q : Plan} → ◌≡◌ {A = Reading Plan} (accepted p) (accepted q) → q ≡ p
plan_same e = cc

-- A constraint has a sum and a bound.
abbrev pub stated : List ℕ → ℕ → Bool
stated s at = has_terms s at and is_bounded s (sum_end s at)

-- What a line without a fault is.
module _ (s : List ℕ) (free : Bool) (c t at : ℕ) (h : fault (variables_in s) s free c t at ≡ 0) (k : is_comment s at ≡ false) where
  two : (is_empty (terms_in s at) ≡ false) × (cond (is_objective s at) (objective_fault (variables_in s) s free at) (constraint_fault (variables_in s) s c t at) ≡ 0)
  unfolding fault
  two = refused_zero _ _ (ap (λ b. cond b 0 (refuse (is_empty (terms_in s at)) 31 (cond (is_objective s at) (objective_fault (variables_in s) s free at) (constraint_fault (variables_in s) s c t at)))) (sym k) ∙ (refused_zero _ _ h).1)

  objective_lawful : is_objective s at ≡ true → terms_lawful (variables_in s) (terms_in s at) ≡ true
  unfolding objective_fault
  objective_lawful o =
      let z : objective_fault (variables_in s) s free at ≡ 0 = rw o at two.1 in
      not-false _ (met_none _ _ _ _ _ z).4

  module _ (o : is_objective s at ≡ false) where
    zero : constraint_fault (variables_in s) s c t at ≡ 0
    zero = rw o at two.1

    some : is_empty (sum_at s at) ≡ false
    unfolding sum_from
    some = rw o at two.0

    stated_right : stated s at ≡ true
    unfolding has_terms constraint_fault constraint_formed
    stated_right =
        and_join (not (is_empty (sum_at s at))) (is_bounded s (sum_end s at)) (ap not some)
        (and_left (is_bounded s (sum_end s at)) _ (not-false _ (met_none _ _ _ _ _ zero).0))

    bound_right : leb (nat_abs (bound_at s at)) 1_000_000_000 ≡ true
    unfolding constraint_fault
    bound_right = le-leb (nat_abs (bound_at s at)) 1_000_000_000 (ltb-false 1_000_000_000 (nat_abs (bound_at s at)) (met_none _ _ _ _ _ zero).3)

    terms_right : terms_lawful (variables_in s) (sum_at s at) ≡ true
    unfolding constraint_fault
    terms_right = not-false _ (met_none _ _ _ _ _ zero).4

    rule_right : rule_lawful (variables_in s) (rule_at s at) ≡ true
    unfolding rule_lawful rule_at is_present bound_lawful ◌or◌ ◌and◌
    rule_right = go (is_exact s (sum_end s at)) refl
      where
        go : (b : Bool) → is_exact s (sum_end s at) ≡ b → rule_lawful (variables_in s) (rule_at s at) ≡ true
        go true e = rw (e, bound_right, some) terms_right
        go false e = rw (e, bound_right, some) terms_right

-- What the lines from some on have, where they are accepted.
module _ (s : List ℕ) where
  abbrev cs : List ℕ → List ℕ
  cs ats = keep (is_constraint s) ats

  pub record Kept (c t : ℕ) (ats : List ℕ) : Type 0 where
    pub rules : all (λ at. rule_lawful (variables_in s) (rule_at s at)) (cs ats) ≡ true
    pub stated_all : all (stated s) (cs ats) ≡ true
    pub count : c + length (cs ats) ≤ 512
    pub terms : t + sum_by (λ at. length (sum_at s at)) (cs ats) ≤ 6_000
    pub objective : terms_lawful (variables_in s) (objective_of s ats) ≡ true
    pub number : c + length (cs ats) ≡ constraints_in s

  pub not_objective : (at : ℕ) → is_comment s at ≡ true → is_objective s at ≡ false
  unfolding is_comment is_objective
  not_objective at h = let e = eqb-true (get_or s at 0) 42 h in ne_eqb (get_or s at 0) 109 (λ q. omega (arith, e, q))

  skip_comment : (c t at : ℕ) (ats : List ℕ) → is_comment s at ≡ true → Kept c t ats → Kept c t (at ∷ ats)
  unfolding keep is_constraint ◌and◌ objective_of
  skip_comment c t at ats h k =
      let o = not_objective at h in
      record {
        rules = rw h k.rules;
        stated_all = rw h k.stated_all;
        count = rw h k.count;
        terms = rw h k.terms;
        objective = rw o k.objective;
        number = rw h k.number;
      }

  skip_objective : (c t at : ℕ) (ats : List ℕ) → is_comment s at ≡ false → is_objective s at ≡ true → terms_lawful (variables_in s) (terms_in s at) ≡ true → Kept c t ats → Kept c t (at ∷ ats)
  unfolding keep is_constraint ◌and◌ objective_of
  skip_objective c t at ats h o l k =
      record {
        rules = rw (h, o) k.rules;
        stated_all = rw (h, o) k.stated_all;
        count = rw (h, o) k.count;
        terms = rw (h, o) k.terms;
        objective = rw o l;
        number = rw (h, o) k.number;
      }

  add_constraint :
      (c t at : ℕ) (ats : List ℕ) → is_comment s at ≡ false → is_objective s at ≡ false → rule_lawful (variables_in s) (rule_at s at) ≡ true
      → stated s at ≡ true → Kept (c + 1) (t + length (sum_at s at)) ats → Kept c t (at ∷ ats)
  unfolding keep is_constraint ◌and◌ objective_of all sum_by
  add_constraint c t at ats h o l w k =
      record {
        rules = rw (h, o) (and_join _ _ l k.rules);
        stated_all = rw (h, o) (and_join _ _ w k.stated_all);
        count = rw (h, o) (omega (arith, k.count));
        terms = rw (h, o) (omega (arith, k.terms));
        objective = rw o k.objective;
        number = rw (h, o) (omega (arith, k.number));
      }

  kept_none : (c t : ℕ) → c ≡ constraints_in s → c ≤ 512 → t ≤ 6_000 → Kept c t []
  unfolding keep all sum_by objective_of terms_lawful rising rising_above ◌and◌
  kept_none c t e a b = record { rules = refl; stated_all = refl; count = omega arith; terms = omega arith; objective = refl; number = omega arith }

  abbrev Claim : Plan → ℕ → ℕ → List ℕ → Type 0
  Claim p c t ats = (p ≡ plan_of_text s) × Kept c t ats

  end_by : (x : Bool) (free : Bool) (c t : ℕ) (p : Plan) → eqb c (constraints_in s) ≡ x → judging s free c t [] ≡ accepted p → c ≤ 512 → t ≤ 6_000 → Claim p c t []
  unfolding judging
  end_by true free c t p q e a b = (plan_same (rw q at e), kept_none c t (eqb-true _ _ q) a b)
  end_by false free c t p q e a b = refused_accepted (rw q at e)

  line_by :
      (x y z : Bool) (free : Bool) (c t at : ℕ) (ats : List ℕ) (p : Plan)
      → ltb 0 (fault (variables_in s) s free c t at) ≡ x → is_comment s at ≡ y → is_objective s at ≡ z
      → judging s free c t (at ∷ ats) ≡ accepted p → c ≤ 512 → t ≤ 6_000
      → ((free' : Bool) (c' t' : ℕ) → judging s free' c' t' ats ≡ accepted p → c' ≤ 512 → t' ≤ 6_000 → Claim p c' t' ats)
      → Claim p c t (at ∷ ats)
  unfolding judging
  line_by true y z free c t at ats p f k o e a b more = refused_accepted (rw f at e)
  line_by false true z free c t at ats p f k o e a b more = let (q, r) = more free c t (rw (f, k) at e) a b in (q, skip_comment c t at ats k r)
  line_by false false true free c t at ats p f k o e a b more =
      let h : fault (variables_in s) s free c t at ≡ 0 = let l = ltb-false 0 (fault (variables_in s) s free c t at) f in omega arith in
      let (q, r) = more false c t (rw (f, k, o) at e) a b in
      (q, skip_objective c t at ats k o (objective_lawful s free c t at h k o) r)
  line_by false false false free c t at ats p f k o e a b more =
      let h : fault (variables_in s) s free c t at ≡ 0 = let l = ltb-false 0 (fault (variables_in s) s free c t at) f in omega arith in
      let (m, n) = constraint_few _ s c t at (zero s free c t at h k o) in
      let (q, r) = more false (c + 1) (t + length (sum_at s at)) (rw (f, k, o) at e) (omega arith) n in
      (q, add_constraint c t at ats k o (rule_right s free c t at h k o) (stated_right s free c t at h k o) r)

  kept : (free : Bool) (c t : ℕ) (ats : List ℕ) (p : Plan) → judging s free c t ats ≡ accepted p → c ≤ 512 → t ≤ 6_000 → Claim p c t ats
  kept free c t [] p e a b = end_by _ free c t p refl e a b
  kept free c t (at ∷ ats) p e a b = line_by _ _ _ free c t at ats p refl refl refl e a b (λ f' c' t'. kept f' c' t' ats p)

-- The rules of a text's plan.
single_rules : (f : ℕ → Rule) (ats : List ℕ) → concat (map (λ at. f at ∷ []) ats) ≡ map f ats
unfolding concat
single_rules f [] = refl
single_rules f (at ∷ ats) = ap (λ rs. f at ∷ rs) (single_rules f ats)

single_lawful : (n : ℕ) (f : ℕ → Rule) (ats : List ℕ) → all (λ at. rule_lawful n (f at)) ats ≡ true → all (clause_lawful n) (map (λ at. f at ∷ []) ats) ≡ true
unfolding all
single_lawful n f [] h = refl
single_lawful n f (at ∷ ats) h =
    and_join _ _ (clause_whole n (f at ∷ []) (omega arith) (and_join _ _ (and_left _ _ h) refl)) (single_lawful n f ats (and_right _ _ h))

module _ (s : List ℕ) where
  abbrev pub constraint_places : List ℕ
  constraint_places = keep (is_constraint s) (starts 0 s)

  pub rules_are : rules_of (plan_of_text s) ≡ map (rule_at s) constraint_places
  unfolding rules_of plan_of_text
  rules_are = single_rules (rule_at s) constraint_places

  pub terms_are : term_count (plan_of_text s) ≡ sum_by (λ at. length (sum_at s at)) constraint_places
  unfolding term_count rule_at
  terms_are = ap (sum_by (λ r. length r.terms)) rules_are ∙ sum_by_map (λ r. length r.terms) (rule_at s) constraint_places

  module _ (p : Plan) (e : read_text s ≡ accepted p) where
    abbrev right : Bool
    right = leb 1 (variables_in s) and leb (variables_in s) 512

    by : (x y : Bool) → first_formed s ≡ x → right ≡ y → (judging s true 0 0 (starts 0 s) ≡ accepted p) × (right ≡ true)
    unfolding read_text
    by true true q r = (rw (q, r) at e, r)
    by true false q r = refused_accepted (rw (q, r) at e)
    by false y q r = refused_accepted (rw q at e)

    formed_by : (x : Bool) → first_formed s ≡ x → first_formed s ≡ true
    unfolding read_text
    formed_by true q = q
    formed_by false q = refused_accepted (rw q at e)

    pub formed : first_formed s ≡ true
    formed = formed_by _ refl

    pub said : Claim s p 0 0 (starts 0 s)
    said = kept s true 0 0 (starts 0 s) p (by _ _ refl refl).0 (omega arith) (omega arith)

    pub lawful_text : LawfulPlan (plan_of_text s)
    unfolding plan_of_text terms_lawful rising rising_above all ◌and◌
    lawful_text =
        let k = said.1 in
        let r = (by _ _ refl refl).1 in
        let n = length-map constraint_places (rule_at s) in
        record {
          low = leb-true 1 (variables_in s) (and_left (leb 1 (variables_in s)) (leb (variables_in s) 512) r);
          high = leb-true (variables_in s) 512 (and_right (leb 1 (variables_in s)) (leb (variables_in s) 512) r);
          objective = terms_parts _ _ k.objective;
          locks = record { rise = refl; within = refl };
          clauses = single_lawful (variables_in s) (rule_at s) constraint_places k.rules;
          clause_count = omega (arith, k.count, length-map constraint_places (λ at. rule_at s at ∷ []));
          rule_count = omega (arith, k.count, n, ap length rules_are);
          terms = omega (arith, k.terms, terms_are);
        }

    pub text_lawful : T (lawful (plan_of_text s))
    text_lawful = plan_whole (plan_of_text s) lawful_text
