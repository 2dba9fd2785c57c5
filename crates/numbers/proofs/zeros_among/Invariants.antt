-- `zeros_among` meets its contract. The invariant: as many are counted as there are more below place i than below the first.
-- Assumes nothing.
use Prim.Native.Nat.{◌+◌, ◌≤◌}
use mathlib.Core.Path.{◌≡◌}
use Rattle.numbers.specs.Finding.{zeros_below}
use Rattle.numbers.proofs.zeros_among.Given as goal

abbrev pub invariant-loop-i : goal.invariant-loop-i
invariant-loop-i l = (zeros_below l.table l.base l.at + l.zeros ≡ zeros_below l.table l.base l.i) × (l.at + l.zeros ≤ l.i)
