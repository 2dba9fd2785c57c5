-- The sizes of a lawful rule are words: it has at most 512 terms of at most 1,000,000, and its bounds are at most 1,000,000,000 either way.
-- Assumes nothing.
use Prim.Native.Nat.{ℕ, ◌+◌, ◌-◌, ◌≤◌, ◌<◌}
use native.Mathlib.Omega.{arith}
use mathlib.Core.Path.{◌≡◌}
use mathlib.Core.Bool.{Bool, true, false, not}
use mathlib.Core.List.{List}
use lib.Dec.{T, leb→le}
use lib.IntN.{ℤ, nat_abs}
use lib.ListN.{length, get_or}
use Rattle.plpb.specs.Plan.{Bound, absent, present, map_bound, Rule, rising}
use Rattle.plpb.specs.Normal.{is_negative, rise, K, size_a, size_b}
use Rattle.plpb.specs.Tallies.{rules_of}
use Rattle.plpb.proofs.Lists.{all_at}
use Rattle.order.specs.Order.{rule_at, no_rule}
use Rattle.format.specs.Limits.{bound_lawful, max_bound, rule_lawful}
use Rattle.format.specs.Tables.{plan_of_tables}
use Rattle.format.proofs.Bools.{T_true, true_T, and_left, and_right}
use Rattle.format.proofs.Bounds.{both_lawful}
use Rattle.format.proofs.Lawful.{rule_parts, terms_short}
use Rattle.rules.specs.Rules.{reach, lower_size, upper_size}
use Rattle.rules.proofs.Terms.{lawful_legal}
use Rattle.rules.proofs.Tables.{rule_terms}
use Rattle.rules.proofs.Summing.{rise_at_most_K, K_at_most}
use Rattle.rules.proofs.Sizes.{rule_lower, rule_upper}
use Rattle.tallies.proofs.Exact.{rules_lawful}
use Rattle.recount.specs.Core.{Laid}
use Rattle.recount.proofs.Laid.{parts}
use Rattle.columns.specs.Columns.{never}
use Rattle.sizing.specs.Sizing.{Small}

reach_small : (base m : ℕ) (up : Bool) → reach base up m ≤ base + 1 + m
unfolding reach
reach_small base m true = omega arith
reach_small base m false = omega arith

module _ (n : ℕ) (q : Rule) (few : n ≤ 512) (t : T (rule_lawful n q)) where
  pub total_small : K q.terms ≤ 512_000_000
  total_small =
      let l = (rule_parts n q (T_true _ t)).terms in
      omega (arith, K_at_most n q.terms (lawful_legal n q.terms (rule_terms n q t)), terms_short n 0 q.terms (unfold rising in l.rise) l.within (omega arith))

  both : both_lawful q.lower q.upper ≡ true
  both = (rule_parts n q (T_true _ t)).both

  bound_small : (b : Bound ℤ) (base : ℕ) (up : ℤ → Bool) → bound_lawful b ≡ true → base ≤ 512_000_000 → Small (map_bound (λ z. reach base (up z) (nat_abs z)) b)
  unfolding map_bound bound_lawful
  bound_small absent base up l h = tt
  bound_small (present z) base up l h = omega (arith, reach_small base (nat_abs z) (up z), leb→le (nat_abs z) max_bound (true_T _ l))

  pub lower_small : Small (size_a q)
  lower_small = rw (← rule_lower q) (unfold lower_size in bound_small q.lower (K q.terms - rise q.terms) is_negative lawful (omega (arith, total_small)))
    where
      lawful : bound_lawful q.lower ≡ true
      lawful = unfold both_lawful in and_right _ _ (and_left _ _ both)

  pub upper_small : Small (size_b q)
  upper_small = rw (← rule_upper q) (unfold upper_size in bound_small q.upper (rise q.terms) (λ u. not (is_negative u)) lawful (omega (arith, total_small, rise_at_most_K q.terms)))
    where
      lawful : bound_lawful q.upper ≡ true
      lawful = unfold both_lawful in and_right _ _ both

-- All three of a rule.
pub record SmallRule (q : Rule) : Type 0 where
  pub total : K q.terms < never
  pub lower : Small (size_a q)
  pub upper : Small (size_b q)

-- The rules of tables that hold a plan are so.
pub plan_small : (tables terms : List ℕ) → Laid tables terms → (r : ℕ) → r < length (rules_of (plan_of_tables tables terms)) → SmallRule (rule_at (plan_of_tables tables terms) r)
unfolding rule_at
plan_small tables terms l r h = record { total = omega (arith, total_small n q few lawful); lower = lower_small n q few lawful; upper = upper_small n q few lawful }
  where
    n : ℕ
    n = (plan_of_tables tables terms).variables

    q : Rule
    q = get_or (rules_of (plan_of_tables tables terms)) r no_rule

    few : n ≤ 512
    few = (parts tables terms l).high

    lawful : T (rule_lawful n q)
    lawful =
        all_at (rule_lawful n) (rules_of (plan_of_tables tables terms)) r no_rule (true_T _ (rules_lawful (plan_of_tables tables terms) (parts tables terms l))) h
