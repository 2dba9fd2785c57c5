-- The tests one after another: the first that fails decides.
-- Assumes nothing.
use Prim.Native.Nat.{ℕ, ◌≤◌, ◌<◌}
use mathlib.Core.Path.{◌≡◌, sym, ap, ◌∙◌}
use mathlib.Core.Bool.{Bool, true, false, not}
use lib.Dec.{T, leb}
use lib.ListN.{length}
use mir.Facts.{leb_yes}
use borrow.Author.Rules.{rules}
use borrow.Author.Tests.{lt-ltb, le-ltb, not-false, tests}
use Rattle.std.specs.Prelude.{Some}
use Rattle.std.specs.Ordering.{is_le, nat_cmp}
use Rattle.std.specs.declared.ops.RangeInclusive.{RangeInclusive}
use Rattle.std.specs.Range.{range_inclusive_start, range_inclusive_end, range_inclusive_exhausted, range_inclusive_contains}
use Rattle.plpb.specs.Lists.{◌and◌}
use Rattle.plpb.proofs.Lists.{and_left, and_right, T_true}
use Rattle.format.specs.File.{refuse}
use Rattle.lending.specs.Lent.{Lent, search_refusal}
use Rattle.figures.specs.Runs.{numbers_size}
use Rattle.trials.specs.declared.Trial.{Trial}
use Rattle.trials.specs.Trials.{all_zero, outside, runs_refusal}

-- ---- the tests

-- What a range's `contains` tells of a number is what the two tests of the definition say.
le_test : (a b : ℕ) → is_le (nat_cmp a b) ≡ leb a b
le_test a b = search (rules, tests)

pub outside_told : {a : Bool} {n : ℕ} (x : ℕ) {r : RangeInclusive ℕ} → range_inclusive_start r ≡ 1 → range_inclusive_end r ≡ n → range_inclusive_exhausted r ≡ false
    → a ≡ range_inclusive_contains (λ i j. Some (nat_cmp i j)) r x → not a ≡ outside n x
unfolding outside ◌and◌
outside_told {n = n} x e f g h = rw (← le_test 1 x, ← le_test x n) (ap not (h ∙ rw (e, f, g)))

module _ (most n : ℕ) where
  pub inside : outside most n ≡ false → (1 ≤ n) × (n ≤ most)
  unfolding outside
  inside e =
      let t : T (leb 1 n and leb n most) = T_true (not-false (leb 1 n and leb n most) e) in
      (leb_yes (and_left _ _ t), leb_yes (and_right _ _ t))

-- ---- one after another

module _ (l : Lent) (t : Trial) where
  pub state_41 : {a : Bool} → a ≡ all_zero t.state → a ≡ true → 41 ≡ runs_refusal l t
  unfolding runs_refusal refuse
  state_41 e h = rw (sym e ∙ h)

  module _ {a b : Bool} (e : a ≡ all_zero t.state) (na : a ≡ false) (f : b ≡ outside 1_000 t.runs) where
    pub runs_42 : b ≡ true → 42 ≡ runs_refusal l t
    unfolding runs_refusal refuse
    runs_42 h = rw (sym e ∙ na, sym f ∙ h)

    module _ (nb : b ≡ false) {d : Bool} (g : d ≡ outside 16_384 t.count) where
      pub count_43 : d ≡ true → 43 ≡ runs_refusal l t
      unfolding runs_refusal refuse
      count_43 h = rw (sym e ∙ na, sym f ∙ nb, sym g ∙ h)

      module _ (nd : d ≡ false) where
        pub room_21 : length l.numbers < numbers_size → 21 ≡ runs_refusal l t
        unfolding runs_refusal refuse
        room_21 h = rw (sym e ∙ na, sym f ∙ nb, sym g ∙ nd, lt-ltb (length l.numbers) numbers_size h)

        pub by_search : numbers_size ≤ length l.numbers → search_refusal l t.settings ≡ runs_refusal l t
        unfolding runs_refusal refuse
        by_search h = rw (sym e ∙ na, sym f ∙ nb, sym g ∙ nd, le-ltb (length l.numbers) numbers_size h)
