-- What is left of a rule, as the code answers it.
-- Assumes nothing.
use Rattle.std.specs.Prelude.{ℕ, ◌≤◌, ◌≡◌, Bool, true, false, not, cond, List, ℤ, Option, Some, None, nat_abs, length}
use Rattle.plpb.specs.Lists.{◌and◌}
use Rattle.plpb.specs.Plan.{Bound, absent, is_present, Rule}
use Rattle.counting.specs.Bound.{bound_of as as_bound}
use Rattle.format.specs.Limits.{max_variables, max_bound}
use Rattle.format.specs.File.{length_at, terms_in, lower_at, upper_at, field_terms, tag_at}
use Rattle.tables.specs.Places.{behind_field}
use Rattle.squeezed.specs.Squeezed.{possible, trimmed}
use Rattle.fates.specs.Sums.{small_terms}
use Rattle.fates.specs.declared.bounds.Bounds.{Bounds}

-- A bound, dropped where it is met.
unfoldable pub still : Bool → Bound ℤ → Bound ℤ
still met b = cond met absent b

-- What is left of a rule's bounds, with nothing where no values can meet the rule.
unfoldable pub Fated : Option Bounds → Rule → Type 0
Fated None r = possible r ≡ false
Fated (Some b) r = (possible r ≡ true) × (as_bound b.lower ≡ (trimmed r).lower) × (as_bound b.upper ≡ (trimmed r).upper)

-- Whether all values meet the rule: none of its bounds is left.
unfoldable pub unbounded : Option Bounds → Bool
unbounded None = false
unbounded (Some b) = not (is_present (as_bound b.lower)) and not (is_present (as_bound b.upper))

-- No sum over 512 terms is larger.
abbrev pub max_total : ℕ
max_total = 512_000_000

-- A rule's field with sums that fit 32 bits.
pub record RuleFits (s : List ℕ) (at : ℕ) : Type 0 where
  pub tag : tag_at s at ≡ 4
  pub room : behind_field s at ≤ length s
  pub size : 15 ≤ length_at s at
  pub few : terms_in 4 (length_at s at) ≤ max_variables
  pub small : small_terms (field_terms s at) ≡ true
  pub lower : nat_abs (lower_at s at) ≤ max_bound
  pub upper : nat_abs (upper_at s at) ≤ max_bound
