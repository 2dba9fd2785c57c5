-- The plan of two lists that nothing is wrong with is lawful, so that its file is accepted and gives it back.
-- Assumes nothing.
use Prim.Native.Nat.{ℕ, suc, ◌+◌, ◌≤◌, ◌<◌}
use native.Mathlib.Omega.{arith}
use mathlib.Core.Path.{◌≡◌, refl, ◌∙◌}
use mathlib.Core.Bool.{Bool, true, false, cond}
use mathlib.Core.List.{List, [], ◌∷◌}
use lib.Dec.{T, eqb, leb}
use lib.IntN.{pos}
use lib.ListN.{length}
use borrow.Author.Tests.{le-leb, lt-ltb, leb-true, eqb-false}
use Rattle.plpb.specs.Lists.{◌and◌, ◌or◌, any, all}
use Rattle.plpb.specs.Plan.{rising_above, rising}
use Rattle.plpb.proofs.Lists.{all_map}
use Rattle.format.specs.Limits.{weight_lawful, bound_lawful, is_present, rule_lawful, lawful, term_within}
use Rattle.format.specs.File as File
use Rattle.format.specs.Writer.{write}
use Rattle.format.proofs.Bools.{and_left, and_right, and_join}
use Rattle.format.proofs.Bounds.{both_lawful}
use Rattle.format.proofs.Lawful.{LawfulTerms, rule_whole, clause_lawful, clause_whole, plan_whole}
use Rattle.format.proofs.RoundTrip.{read_write}
use Rattle.lists.specs.Lists.{Site, Zone, in_zone, terms_by, zone_terms, between, none_at_all, zone_clause, plan_for}
use Rattle.lists.specs.Refusals.{too_large}
use Rattle.lists.proofs.Counts.{any_count, terms_count, Used, small_enough}

-- ---- terms

abbrev Light : (Site → ℕ) → List Site → Type 0
Light w ss = all (λ s. leb (w s) 1_000_000) ss ≡ true

rises : (w : Site → ℕ) (v i : ℕ) (ss : List Site) → v < i → rising_above v (terms_by w i ss) ≡ true
unfolding terms_by rising_above
rises w v i [] h = refl
rises w v i (s ∷ ss) h = go (eqb (w s) 0) (rises w v (suc i) ss (omega arith)) (rises w i (suc i) ss (omega arith))
  where
    go : (t : Bool) → rising_above v (terms_by w (suc i) ss) ≡ true → rising_above i (terms_by w (suc i) ss) ≡ true
        → rising_above v (cond t (terms_by w (suc i) ss) (record { variable = i; weight = pos (w s) } ∷ terms_by w (suc i) ss)) ≡ true
    go true a b = a
    go false a b = and_join _ _ (lt-ltb v i h) b

weight_within : (n i k : ℕ) → i ≤ n → (k ≡ 0 → ⊥) → k ≤ 1_000_000 → term_within n (record { variable = i; weight = pos k }) ≡ true
unfolding term_within weight_lawful
weight_within n i k a b c = and_join _ _ (le-leb i n a) (and_join _ _ (lt-ltb 0 k (omega arith)) (le-leb k 1_000_000 c))

within : (w : Site → ℕ) (n i : ℕ) (ss : List Site) → i + length ss ≤ suc n → Light w ss → all (term_within n) (terms_by w i ss) ≡ true
unfolding terms_by all
within w n i [] h l = refl
within w n i (s ∷ ss) h l = go (eqb (w s) 0) refl (within w n (suc i) ss (omega arith) (and_right _ _ l))
  where
    go : (t : Bool) → eqb (w s) 0 ≡ t → all (term_within n) (terms_by w (suc i) ss) ≡ true
        → all (term_within n) (cond t (terms_by w (suc i) ss) (record { variable = i; weight = pos (w s) } ∷ terms_by w (suc i) ss)) ≡ true
    go true e a = a
    go false e a = and_join _ _ (weight_within n i (w s) (omega arith) (eqb-false (w s) 0 e) (leb-true _ _ (and_left _ _ l))) a

terms_lawful_lem : (w : Site → ℕ) (ss : List Site) → Light w ss → LawfulTerms (length ss) (terms_by w 1 ss)
unfolding rising
terms_lawful_lem w ss l = record { rise = rises w 0 1 ss (omega arith); within = within w (length ss) 1 ss (omega arith) l }

one_is_light : (name : List ℕ) (ss : List Site) → Light (λ s. cond (in_zone name s) 1 0) ss
unfolding all
one_is_light name [] = refl
one_is_light name (s ∷ ss) = and_join _ _ (go (in_zone name s)) (one_is_light name ss)
  where
    go : (b : Bool) → leb (cond b 1 0) 1_000_000 ≡ true
    go true = refl
    go false = refl

-- ---- rules and clauses

-- Each zone's bounds are in their range.
abbrev pub Bounded : List Zone → Type 0
Bounded zs = all (λ z. leb z.least 512 and leb z.most 512) zs ≡ true

module _ (ss : List Site) (z : Zone) (u : any (in_zone z.name) ss ≡ true) where
  some_term : 0 < length (zone_terms ss z.name)
  some_term = omega (arith, terms_count z.name 1 ss, any_count (in_zone z.name) ss u)

  between_lawful : z.least ≤ 512 → z.most ≤ 512 → rule_lawful (length ss) (between ss z) ≡ true
  unfolding between both_lawful bound_lawful is_present ◌or◌ ◌and◌
  between_lawful a b =
      rule_whole (length ss) (between ss z)
      (record {
        both = and_join _ _ (le-leb z.least 1_000_000_000 (omega arith)) (le-leb z.most 1_000_000_000 (omega arith));
        some = some_term;
        terms = terms_lawful_lem (λ s. cond (in_zone z.name s) 1 0) ss (one_is_light z.name ss);
      })

  none_lawful : rule_lawful (length ss) (none_at_all ss z) ≡ true
  unfolding none_at_all both_lawful bound_lawful is_present ◌or◌ ◌and◌
  none_lawful =
      rule_whole (length ss) (none_at_all ss z)
      (record { both = refl; some = some_term; terms = terms_lawful_lem (λ s. cond (in_zone z.name s) 1 0) ss (one_is_light z.name ss) })

  clause_lawful_lem : (leb z.least 512 and leb z.most 512) ≡ true → clause_lawful (length ss) (zone_clause ss z) ≡ true
  unfolding zone_clause all
  clause_lawful_lem b = clause_whole (length ss) (zone_clause ss z) (omega arith) (and_join _ _ first (second z.may_be_empty))
    where
      first : rule_lawful (length ss) (between ss z) ≡ true
      first = between_lawful (leb-true _ _ (and_left _ _ b)) (leb-true _ _ (and_right _ _ b))

      second : (m : Bool) → all (rule_lawful (length ss)) (cond m (none_at_all ss z ∷ []) []) ≡ true
      second true = and_join _ _ none_lawful refl
      second false = refl

clauses_lawful :
    (ss : List Site) (zs : List Zone) → Used ss zs → Bounded zs → all (λ z. clause_lawful (length ss) (zone_clause ss z)) zs ≡ true
unfolding all
clauses_lawful ss [] u b = refl
clauses_lawful ss (z ∷ zs) u b =
    and_join _ _ (clause_lawful_lem ss z (and_left _ _ u) (and_left _ _ b)) (clauses_lawful ss zs (and_right _ _ u) (and_right _ _ b))

-- ---- the plan

pub record Sound (ss : List Site) (zs : List Zone) : Type 0 where
  pub some : 1 ≤ length ss
  pub metres : all (λ s. leb s.metres 1_000_000) ss ≡ true
  pub bounds : Bounded zs
  pub used : Used ss zs
  pub small : too_large (plan_for ss zs) ≡ false

pub plan_lawful : (ss : List Site) (zs : List Zone) → Sound ss zs → T (lawful (plan_for ss zs))
unfolding plan_for rising rising_above all
plan_lawful ss zs h =
    let few = small_enough (plan_for ss zs) h.small in
    plan_whole (plan_for ss zs)
    (record {
      low = h.some;
      high = few.0;
      objective = terms_lawful_lem (λ s. s.metres) ss h.metres;
      locks = record { rise = refl; within = refl };
      clauses = all_map (clause_lawful (length ss)) (zone_clause ss) zs ∙ clauses_lawful ss zs h.used h.bounds;
      clause_count = few.1;
      rule_count = few.2;
      terms = few.3;
    })

-- "the written file is accepted by loading, and gives that plan back"
pub plan_read : (ss : List Site) (zs : List Zone) → Sound ss zs → File.read (write (plan_for ss zs)) ≡ File.accepted (plan_for ss zs)
plan_read ss zs h = read_write (plan_for ss zs) (plan_lawful ss zs h)
