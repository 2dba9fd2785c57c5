-- `hold_locks` meets its contract. The invariant: the first i bytes are held, the rest as they were.
-- Assumes nothing.
use mathlib.Core.List.{◌++◌}
use mathlib.Core.Path.{◌≡◌}
use lib.ListN.{take, drop}
use Rattle.locks.specs.Held.{held_first}
use Rattle.locks.proofs.hold_locks.Given as goal

abbrev pub invariant-loop-i : goal.invariant-loop-i
invariant-loop-i l = l.byte-items ≡ take l.i (held_first l.tables l.n l.fn.assignment) ++ drop l.i (take l.n l.fn.assignment)
