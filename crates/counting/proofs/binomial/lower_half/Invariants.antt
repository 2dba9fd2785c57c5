-- `lower_half` meets its contract. The invariant: `entry` is m over i, and not past the cap. Up to the middle entries only rise,
-- so where one is past the cap, m over k is, and the first such one ends the count of factors.
-- Assumes nothing.
use Prim.Native.Nat.{◌≤◌}
use mathlib.Core.Path.{◌≡◌}
use Rattle.plpb.specs.Equations.{binom}
use Rattle.counting.proofs.binomial.lower_half.Given as goal

abbrev pub invariant-loop-i : goal.invariant-loop-i
invariant-loop-i l = (l.i ≤ l.k) × (l.entry ≡ binom l.m l.i) × (l.entry ≤ 4294967295)
