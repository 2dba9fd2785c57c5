-- `copy` meets its contract. The invariant: the first i bytes are copied and the rest as they were.
-- Assumes nothing.
use Prim.Native.Nat.{◌≤◌}
use mathlib.Core.Path.{◌≡◌}
use mathlib.Core.List.{◌++◌}
use lib.ListN.{length, take, drop}
use Rattle.words.proofs.copy.Given as goal

abbrev pub invariant-loop-i : goal.invariant-loop-i
invariant-loop-i l = (l.i ≤ length l.from) × (l.to ≡ take l.i l.from ++ drop l.i l.initial.to) × (length l.to ≡ length l.initial.to)
