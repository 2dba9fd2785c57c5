-- The settings are judged test by test: the first one that fails decides.
-- Assumes nothing.
use Prim.Native.Nat.{ℕ, ◌≤◌, ◌<◌}
use mathlib.Core.Path.{◌≡◌, sym, ◌∙◌}
use borrow.Author.Tests.{lt-ltb, le-ltb, tests}
use borrow.Author.Rules.{rules}
use mathlib.Core.Bool.{Bool, true, false}
use lib.Dec.{leb}
use Rattle.std.specs.Prelude.{Some}
use Rattle.std.specs.Ordering.{is_le, nat_cmp}
use Rattle.std.specs.declared.ops.RangeInclusive.{RangeInclusive}
use Rattle.std.specs.Range.{range_inclusive_start, range_inclusive_end, range_inclusive_exhausted, range_inclusive_contains}
use Rattle.plpb.specs.Lists.{◌and◌}
use Rattle.format.specs.File.{refuse}
use Rattle.settings.specs.declared.Settings.{Settings as Asked}
use Rattle.settings.specs.Settings.{choice_refusal, settings_refusal}

module _ (k : Asked) where
  pub heuristic_15 : 1 < k.heuristic → 15 ≡ choice_refusal k
  unfolding choice_refusal refuse
  heuristic_15 h = rw (lt-ltb 1 k.heuristic h)

  pub chance_16 : k.heuristic ≤ 1 → 1_000 < k.chance → 16 ≡ choice_refusal k
  unfolding choice_refusal refuse
  chance_16 a h = rw (le-ltb 1 k.heuristic a, lt-ltb 1_000 k.chance h)

  pub choice_0 : k.heuristic ≤ 1 → k.chance ≤ 1_000 → 0 ≡ choice_refusal k
  unfolding choice_refusal refuse
  choice_0 a h = rw (le-ltb 1 k.heuristic a, le-ltb 1_000 k.chance h)

  pub noise_11 : 1_000 < k.noise → 11 ≡ settings_refusal k
  unfolding settings_refusal refuse
  noise_11 h = rw (lt-ltb 1_000 k.noise h)

  module _ (a : k.noise ≤ 1_000) where
    pub tries_12 : (leb 1 k.tries and leb k.tries 1_000) ≡ false → 12 ≡ settings_refusal k
    unfolding settings_refusal refuse
    tries_12 h = rw (le-ltb 1_000 k.noise a, h)

    module _ (b : (leb 1 k.tries and leb k.tries 1_000) ≡ true) where
      pub flips_13 : (leb 1 k.flips and leb k.flips 1_000_000) ≡ false → 13 ≡ settings_refusal k
      unfolding settings_refusal refuse
      flips_13 h = rw (le-ltb 1_000 k.noise a, b, h)

      module _ (d : (leb 1 k.flips and leb k.flips 1_000_000) ≡ true) where
        pub mode_14 : 1 < k.mode → 14 ≡ settings_refusal k
        unfolding settings_refusal refuse
        mode_14 h = rw (le-ltb 1_000 k.noise a, b, d, lt-ltb 1 k.mode h)

        pub by_choice : k.mode ≤ 1 → choice_refusal k ≡ settings_refusal k
        unfolding settings_refusal refuse
        by_choice h = rw (le-ltb 1_000 k.noise a, b, d, le-ltb 1 k.mode h)

-- What a range's `contains` tells of a number is what the two tests of the definition say.
le_test : (a b : ℕ) → is_le (nat_cmp a b) ≡ leb a b
le_test a b = search (rules, tests)

pub told : {a b : Bool} {m n : ℕ} (x : ℕ) {r : RangeInclusive ℕ} → range_inclusive_start r ≡ m → range_inclusive_end r ≡ n → range_inclusive_exhausted r ≡ false
    → a ≡ range_inclusive_contains (λ i j. Some (nat_cmp i j)) r x → a ≡ b → (leb m x and leb x n) ≡ b
unfolding ◌and◌
told {m = m} {n = n} x e f g h t = rw (← le_test m x, ← le_test x n) (sym (h ∙ rw (e, f, g)) ∙ t)
