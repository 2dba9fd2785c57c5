-- How many clauses, rules and terms the plan of two lists has: where the zones are apart and each has a site, there are no more zones than sites, and
-- the zones' terms are no more than the sites. So with 512 sites at most nothing else can be too large.
-- Assumes nothing.
use Prim.Native.Nat.{ℕ, suc, ◌+◌, ◌*◌, ◌≤◌}
use native.Mathlib.Omega.{arith}
use native.Mathlib.Nat.{le_refl}
use mathlib.Core.Path.{◌≡◌, refl, sym, ap, ◌∙◌}
use mathlib.Core.Bool.{Bool, true, false, cond, true≢false}
use mathlib.Core.List.{List, [], ◌∷◌, ◌++◌, map}
use lib.Dec.{eqb, ltb}
use lib.ListN.{length, length-map}
use borrow.Author.Tests.{le-ltb, ltb-false}
use Rattle.plpb.specs.Lists.{◌or◌, count, any, all, concat, sum_by}
use Rattle.plpb.specs.Plan.{Term, Rule, Plan}
use Rattle.plpb.specs.Tallies.{rules_of}
use Rattle.plpb.proofs.Lists.{count_nil, count_cons, count_is_sum, sum_by_plus, sum_by_same}
use Rattle.format.specs.Limits.{term_count}
use Rattle.format.proofs.Bools.{and_left, and_right}
use Rattle.cells.specs.Grammar.{same_bytes}
use Rattle.lists.specs.Lists.{Site, Zone, in_zone, terms_by, zone_terms, between, none_at_all, zone_clause, plan_for}
use Rattle.lists.specs.Refusals.{too_large}

pub or_left_false : (a b : Bool) → (a or b) ≡ false → a ≡ false
unfolding ◌or◌
or_left_false true b e = e
or_left_false false b e = refl

pub or_right_false : (a b : Bool) → (a or b) ≡ false → b ≡ false
unfolding ◌or◌
or_right_false true b e = absurd (true≢false e)
or_right_false false b e = e

-- How many sites a zone has.
abbrev pub size_of : List Site → Zone → ℕ
size_of ss z = count (in_zone z.name) ss

term_more : (b : Bool) (x : Term) (ts : List Term) → length (cond (eqb (cond b 1 0) 0) ts (x ∷ ts)) ≡ cond b 1 0 + length ts
term_more true x ts = omega arith
term_more false x ts = omega arith

-- A zone has as many terms as sites.
pub terms_count : (name : List ℕ) (i : ℕ) (ss : List Site) → length (terms_by (λ s. cond (in_zone name s) 1 0) i ss) ≡ count (in_zone name) ss
unfolding terms_by
terms_count name i [] = sym (count_nil (in_zone name))
terms_count name i (s ∷ ss) =
    term_more (in_zone name s) _ _
    ∙ ap (λ (n : ℕ). cond (in_zone name s) 1 0 + n) (terms_count name (suc i) ss)
    ∙ sym (count_cons (in_zone name) s ss)

-- ---- the zones' sizes together

sum_none : (zs : List Zone) → sum_by (size_of []) zs ≡ 0
unfolding sum_by
sum_none [] = refl
sum_none (z ∷ zs) = omega (arith, count_nil (in_zone z.name), sum_none zs)

sum_first : (s : Site) (ss : List Site) (zs : List Zone) → sum_by (size_of (s ∷ ss)) zs ≡ count (λ z. in_zone z.name s) zs + sum_by (size_of ss) zs
sum_first s ss zs =
    sum_by_same (size_of (s ∷ ss)) (λ z. cond (in_zone z.name s) 1 0 + size_of ss z) zs (λ z. count_cons (in_zone z.name) s ss)
    ∙ sum_by_plus (λ z. cond (in_zone z.name s) 1 0) (size_of ss) zs
    ∙ ap (λ (n : ℕ). n + sum_by (size_of ss) zs) (sym (count_is_sum (λ z. in_zone z.name s) zs))

-- No two zones have one name.
abbrev pub Apart : List Zone → Type 0
Apart zs = (v : List ℕ) → count (λ z. same_bytes v z.name) zs ≤ 1

-- Each zone has a site.
abbrev pub Used : List Site → List Zone → Type 0
Used ss zs = all (λ z. any (in_zone z.name) ss) zs ≡ true

sizes_few : (ss : List Site) (zs : List Zone) → Apart zs → sum_by (size_of ss) zs ≤ length ss
unfolding in_zone
sizes_few [] zs h = omega (arith, sum_none zs)
sizes_few (s ∷ ss) zs h = omega (arith, sum_first s ss zs, h s.zone, sizes_few ss zs h)

pub any_count : {A : Type 0} (p : A → Bool) (xs : List A) → any p xs ≡ true → 1 ≤ count p xs
unfolding any ◌or◌
any_count p [] e = absurd (true≢false (sym e))
any_count p (x ∷ xs) e = let h = go (p x) e (any_count p xs) in omega (arith, count_cons p x xs, h)
  where
    go : (b : Bool) → b or any p xs ≡ true → (any p xs ≡ true → 1 ≤ count p xs) → 1 ≤ cond b 1 0 + count p xs
    go true e h = omega arith
    go false e h = omega (arith, h e)

zones_few : (ss : List Site) (zs : List Zone) → Used ss zs → length zs ≤ sum_by (size_of ss) zs
unfolding all sum_by
zones_few ss [] h = le_refl 0
zones_few ss (z ∷ zs) h =
    let a = any_count (in_zone z.name) ss (and_left _ _ h) in
    let b = zones_few ss zs (and_right _ _ h) in
    omega (arith, a, b)

-- ---- rules and their terms

rules_few : (ss : List Site) (zs : List Zone) → length (concat (map (zone_clause ss) zs)) ≤ 2 * length zs
unfolding concat zone_clause
rules_few ss [] = le_refl 0
rules_few ss (z ∷ zs) = go z.may_be_empty (rules_few ss zs)
  where
    go : (m : Bool) → length (concat (map (zone_clause ss) zs)) ≤ 2 * length zs
        → length ((between ss z ∷ cond m (none_at_all ss z ∷ []) []) ++ concat (map (zone_clause ss) zs)) ≤ 2 * suc (length zs)
    go true h = omega arith
    go false h = omega arith

abbrev terms_of : Rule → ℕ
terms_of r = length r.terms

terms_few : (ss : List Site) (zs : List Zone) → sum_by terms_of (concat (map (zone_clause ss) zs)) ≤ 2 * sum_by (size_of ss) zs
unfolding concat sum_by zone_clause between none_at_all
terms_few ss [] = le_refl 0
terms_few ss (z ∷ zs) = go z.may_be_empty (terms_few ss zs) (terms_count z.name 1 ss)
  where
    go : (m : Bool) → sum_by terms_of (concat (map (zone_clause ss) zs)) ≤ 2 * sum_by (size_of ss) zs → length (zone_terms ss z.name) ≡ size_of ss z
        → sum_by terms_of ((between ss z ∷ cond m (none_at_all ss z ∷ []) []) ++ concat (map (zone_clause ss) zs)) ≤ 2 * (size_of ss z + sum_by (size_of ss) zs)
    go true h e = omega arith
    go false h e = omega arith

-- With zones that are apart and used, the number of sites alone says whether a plan is too large.
pub record Few (ss : List Site) (zs : List Zone) : Type 0 where
  pub clauses : length (plan_for ss zs).clauses ≤ length ss
  pub rules : length (rules_of (plan_for ss zs)) ≤ 2 * length ss
  pub terms : term_count (plan_for ss zs) ≤ 2 * length ss

pub few : (ss : List Site) (zs : List Zone) → Apart zs → Used ss zs → Few ss zs
unfolding rules_of term_count plan_for
few ss zs a u =
    let s = sizes_few ss zs a in
    let z = zones_few ss zs u in
    record {
      clauses = omega (arith, length-map zs (zone_clause ss), s, z);
      rules = omega (arith, rules_few ss zs, s, z);
      terms = omega (arith, terms_few ss zs, s);
    }

none_large :
    (p : Plan) → p.variables ≤ 512 → length p.clauses ≤ 512 → length (rules_of p) ≤ 1_024 → term_count p ≤ 6_000 → too_large p ≡ false
unfolding too_large ◌or◌
none_large p a b c d = rw (le-ltb 512 _ a, le-ltb 512 _ b, le-ltb 1_024 _ c, le-ltb 6_000 _ d)

many_sites : (p : Plan) → ltb 512 p.variables ≡ true → too_large p ≡ true
unfolding too_large ◌or◌
many_sites p e = rw e

pub size_alone : (ss : List Site) (zs : List Zone) → Few ss zs → too_large (plan_for ss zs) ≡ ltb 512 (length ss)
unfolding plan_for
size_alone ss zs f = go (ltb 512 (length ss)) refl
  where
    go : (t : Bool) → ltb 512 (length ss) ≡ t → too_large (plan_for ss zs) ≡ t
    go true e = many_sites (plan_for ss zs) e
    go false e =
        let l = ltb-false 512 (length ss) e in
        none_large (plan_for ss zs) l (omega (arith, f.clauses, l)) (omega (arith, f.rules, l)) (omega (arith, f.terms, l))

pub small_enough : (p : Plan) → too_large p ≡ false → (p.variables ≤ 512) × (length p.clauses ≤ 512) × (length (rules_of p) ≤ 1_024) × (term_count p ≤ 6_000)
unfolding too_large
small_enough p e =
    let d = or_right_false _ _ e in
    let c = or_left_false _ _ e in
    let b = or_left_false _ _ c in (
      ltb-false _ _ (or_left_false _ _ b),
      ltb-false _ _ (or_right_false _ _ b),
      ltb-false _ _ (or_right_false _ _ c),
      ltb-false _ _ d,
    )
