-- Bounds by their mode, and what is left of them.
-- Assumes nothing.
use Prim.Native.Nat.{ℕ, ◌+◌, ◌*◌, ◌≤◌}
use native.Mathlib.Omega.{arith}
use mathlib.Core.Path.{◌≡◌, refl, sym, ap, ap₂, ◌∙◌}
use mathlib.Core.Bool.{Bool, true, false, not, cond}
use mathlib.Core.List.{List}
use lib.Dec.{eqb}
use Rattle.std.specs.Bool.{then_some}
use Rattle.std.specs.Prelude.{Option, None, Some, MatchOption}
use lib.IntN.{ℤ, ◌-ℤ◌}
use lib.ListN.{length, get_or}
use Rattle.plpb.specs.Lists.{◌and◌}
use Rattle.plpb.specs.Plan.{Bound, absent, present, map_bound, Rule, at_least, at_most, least_total}
use Rattle.words.specs.Words.{num_at}
use Rattle.format.specs.File.{length_at, terms_in, terms_at, field_terms, mode_at, lower_at, upper_at, bound_of, rule_at}
use Rattle.tables.specs.Places.{behind_field}
use Rattle.squeezed.specs.Squeezed.{given_total, put_in, greatest_total, possible, trimmed}
use Rattle.fates.specs.Codes.{decoded}
use Rattle.fates.specs.Sums.{Given, Least, Greatest, part_total, TermsFit}
use Rattle.counting.specs.Bound.{bound_of as as_bound}
use Rattle.fates.specs.Rules.{still, Fated, RuleFits}
use Rattle.fates.specs.declared.bounds.Bounds.{Bounds}
use Rattle.fates.proofs.Parts.{given_total_lem, least_total_lem, greatest_total_lem}

-- A bound of a mode, as the code takes it.
pub mode_bound : (k m : ℕ) (b : ℤ) {o : Option ℤ} → o ≡ then_some (not (eqb m k)) b → as_bound o ≡ bound_of k m b
unfolding bound_of
mode_bound k m b e = ap as_bound e ∙ by (eqb m k)
  where
    by : (t : Bool) → as_bound (then_some (not t) b) ≡ cond t absent (present b)
    by true = refl
    by false = refl

-- ---- a rule's field

module _ {s : List ℕ} {at : ℕ} (r : RuleFits s at) where
  pub rule_room_lem : at + 15 ≤ length s
  unfolding behind_field
  rule_room_lem = omega (arith, r.room, r.size)

  pub rule_terms : field_terms s at ≡ terms_at s (at + 12) (terms_in 4 (length_at s at))
  unfolding field_terms
  rule_terms = rw r.tag

  pub terms_room : at + 12 + 6 * terms_in 4 (length_at s at) ≤ length s
  unfolding behind_field terms_in
  terms_room = omega (arith, r.room, r.size)

  -- Its terms, as the code takes them.
  pub terms_fit : {count : ℕ} → count ≡ terms_in 4 (length_at s at) → TermsFit s (at + 12) count
  terms_fit e = rw e (record { inside = terms_room; few = r.few; small = rw rule_terms at r.small })

  pub terms_taken : {count : ℕ} → count ≡ terms_in 4 (length_at s at) → terms_at s (at + 12) count ≡ field_terms s at
  terms_taken e = ap (terms_at s (at + 12)) e ∙ sym rule_terms

pub byte_at : (s : List ℕ) (i : ℕ) → get_or s i 0 ≡ num_at 1 s i
unfolding num_at
byte_at s i = omega arith

-- A bound of a mode, less a number.
less_bound : (m k : ℕ) (b g : ℤ) → map_bound (λ l. l -ℤ g) (bound_of k m b) ≡ bound_of k m (b -ℤ g)
unfolding bound_of map_bound
less_bound m k b g = by (eqb m k)
  where
    by : (t : Bool) → map_bound (λ l. l -ℤ g) (cond t absent (present b)) ≡ cond t absent (present (b -ℤ g))
    by true = refl
    by false = refl

-- What is left of a rule's bounds, by its bounds and its least and greatest sum.
module _ (r : Rule) {l u : Bound ℤ} {least greatest : ℤ}
    (lowers : l ≡ r.lower) (uppers : u ≡ r.upper) (leasts : least ≡ least_total r.terms) (greatests : greatest ≡ greatest_total r.terms)
  where
    pub fated : (o : Option Bounds)
        → MatchOption o ((at_least l greatest and at_most u least) ≡ false)
        (λ b. ((at_least l greatest and at_most u least) ≡ true) × (as_bound b.lower ≡ still (at_least l least) l) × (as_bound b.upper ≡ still (at_most u greatest) u))
        → Fated o r
    unfolding Fated possible trimmed still
    fated None h = rw (lowers, uppers, leasts, greatests) at h
    fated (Some b) h = rw (lowers, uppers, leasts, greatests) at h

-- What the code works out of a rule's field is what is left of the rule.
abbrev left : List ℕ → List ℕ → ℕ → Rule
left s map at = put_in (decoded map) (rule_at s at)

module _
    (s map : List ℕ) (at : ℕ) {m : ℕ} {given least greatest lower upper : ℤ}
    (modes : m ≡ mode_at s at) (givens : given ≡ part_total Given (decoded map) (field_terms s at))
    (leasts : least ≡ part_total Least (decoded map) (field_terms s at)) (greatests : greatest ≡ part_total Greatest (decoded map) (field_terms s at))
    (lowers : lower ≡ lower_at s at -ℤ given) (uppers : upper ≡ upper_at s at -ℤ given)
  where
    pub left_lower : bound_of 2 m lower ≡ (left s map at).lower
    unfolding put_in rule_at
    left_lower =
        ap₂ (bound_of 2) modes (lowers ∙ ap (λ g. lower_at s at -ℤ g) (givens ∙ given_total_lem (decoded map) (field_terms s at)))
        ∙ sym (less_bound (mode_at s at) 2 (lower_at s at) (given_total (decoded map) (field_terms s at)))

    pub left_upper : bound_of 1 m upper ≡ (left s map at).upper
    unfolding put_in rule_at
    left_upper =
        ap₂ (bound_of 1) modes (uppers ∙ ap (λ g. upper_at s at -ℤ g) (givens ∙ given_total_lem (decoded map) (field_terms s at)))
        ∙ sym (less_bound (mode_at s at) 1 (upper_at s at) (given_total (decoded map) (field_terms s at)))

    pub left_least : least ≡ least_total (left s map at).terms
    unfolding put_in rule_at
    left_least = leasts ∙ least_total_lem (decoded map) (field_terms s at)

    pub left_greatest : greatest ≡ greatest_total (left s map at).terms
    unfolding put_in rule_at
    left_greatest = greatests ∙ greatest_total_lem (decoded map) (field_terms s at)
