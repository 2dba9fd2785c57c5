-- `rules_full` meets its contract: a sum that stops at the largest number there is lies above 6,000 as the whole sum does.
-- Assumes nothing.
use Prim.Native.Nat.{ℕ, ◌+◌, ◌<◌, min}
use native.Mathlib.Nat.{min-eq_left, min-eq_right}
use native.Mathlib.Decide.{dec_lt}
use native.Mathlib.Omega.{arith}
use mathlib.Core.Path.{◌≡◌, ap, sym, ◌∙◌}
use lib.Dec.{ltb}
use borrow.Author.Tests.{le-leb, lt-leb, lt-ltb}
use Rattle.plpb.specs.Lists.{◌or◌}
use Rattle.faults.proofs.rules_full.Goals as goal

above : (sum : ℕ) → ltb 6_000 (min sum 18_446_744_073_709_551_615) ≡ ltb 6_000 sum
above sum = by (dec_lt 18_446_744_073_709_551_615 sum)
  where
    by : Dec (18_446_744_073_709_551_615 < sum) → ltb 6_000 (min sum 18_446_744_073_709_551_615) ≡ ltb 6_000 sum
    by (yes h) = rw (min-eq_right {n = 18_446_744_073_709_551_615} {m = sum} (omega arith)) (sym (lt-ltb 6_000 sum (omega arith)))
    by (no n) = ap (ltb 6_000) (min-eq_left {n = sum} {m = 18_446_744_073_709_551_615} (omega (arith, n)))

pub returns-then-rules : goal.returns-then-rules
unfolding ◌or◌
returns-then-rules g c = simp (le-leb _ _ c.if-rules.true)

pub returns-else-rules : goal.returns-else-rules
unfolding ◌or◌
returns-else-rules g c = simp (lt-leb _ _ c.if-rules.false) (ap (ltb 6_000) c.saturating_add.ensures ∙ above (c.args.terms + c.args.more))
