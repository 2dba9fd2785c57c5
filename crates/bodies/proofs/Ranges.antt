-- Whether a range has a number in it.
-- Assumes nothing.
use Prim.Native.Nat.{ℕ}
use mathlib.Core.Path.{◌≡◌, ◌∙◌}
use mathlib.Core.Bool.{Bool, false}
use lib.Dec.{leb}
use borrow.Author.Rules.{rules}
use borrow.Author.Tests.{tests}
use Rattle.std.specs.Prelude.{Some}
use Rattle.std.specs.Ordering.{is_le, nat_cmp}
use Rattle.std.specs.declared.ops.RangeInclusive.{RangeInclusive}
use Rattle.std.specs.Range.{range_inclusive_start, range_inclusive_end, range_inclusive_exhausted, range_inclusive_contains}
use Rattle.plpb.specs.Lists.{◌and◌}

-- A number's comparison says at most just where the test of the definitions does.
le_test : (a b : ℕ) → is_le (nat_cmp a b) ≡ leb a b
le_test a b = search (rules, tests)

-- What a range's `contains` tells of a number is what the two tests of the definition say.
pub between : {b : Bool} {m n : ℕ} (x : ℕ) {r : RangeInclusive ℕ} → range_inclusive_start r ≡ m → range_inclusive_end r ≡ n → range_inclusive_exhausted r ≡ false
    → b ≡ range_inclusive_contains (λ i j. Some (nat_cmp i j)) r x → b ≡ (leb m x and leb x n)
unfolding ◌and◌
between {m = m} {n = n} x e f g h = rw (← le_test m x, ← le_test x n) (h ∙ rw (e, f, g))
