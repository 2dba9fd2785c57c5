-- `words::zeros` meets its contract. The invariant: what was found decides of the words passed. The measure is what is left.
-- Assumes nothing.
use Prim.Native.Nat.{◌+◌, ◌-◌, ◌≤◌}
use Rattle.words.specs.Tests.{Decides, ZeroWords}
use Rattle.words.proofs.zeros.Given as goal

abbrev pub invariant-loop-i : goal.invariant-loop-i
invariant-loop-i l = (l.from ≤ l.i) × (l.i ≤ l.from + (l.end - l.from)) × Decides l.all (ZeroWords l.s l.from l.i)
