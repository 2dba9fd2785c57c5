-- `with` meets its contract: a run without a find adds its flips alone, and no sum grows too large.
-- Assumes nothing.
use Prim.Native.Nat.{◌≤◌}
use native.Mathlib.Omega.{arith}
use mathlib.Core.Path.{◌≡◌, ap₂}
use lib.IntN.{ℤ, nat_abs, ◌+ℤ◌}
use mir.Facts.{to_z-of_z}
use mir.Syntax.{w64}
use mir.Val.{SFits, to_z, of_z}
use Rattle.counting.proofs.Signed.{small_fits, size_sum}
use Rattle.figures.proofs.Adding.{plus_none, plus_find}
use Rattle.figures.proofs.Sums.with.Goals as goal

-- The sum of two costs, as the machine holds them.
held : (x : ℤ) → nat_abs x ≤ 512_000_000_000 → to_z w64 (of_z w64 x) ≡ x
held x f = to_z-of_z (small_fits x (omega arith))

module _ (x y : ℤ) (f : nat_abs x ≤ 512_000_000_000) (g : nat_abs y ≤ 512_000_000) where
  is : to_z w64 (of_z w64 x) +ℤ to_z w64 (of_z w64 y) ≡ x +ℤ y
  is = ap₂ ◌+ℤ◌ (held x f) (held y (omega arith))

  fits : SFits w64 (x +ℤ y)
  fits = small_fits (x +ℤ y) (omega (arith, size_sum x y))

  sum_is : to_z w64 (of_z w64 (to_z w64 (of_z w64 x) +ℤ to_z w64 (of_z w64 y))) ≡ x +ℤ y
  sum_is = rw is (to_z-of_z fits)

pub returns-then-finds-eq0 : goal.returns-then-finds-eq0
returns-then-finds-eq0 c = plus_none c.args.self _ _ c.args.cost c.if-finds-eq0.true (held c.args.self.cost c.requires.0.cost)

pub returns : goal.returns
returns c = plus_find c.args.self _ _ c.args.cost (omega arith) (sum_is c.args.self.cost c.args.cost c.requires.0.cost c.requires.2)
