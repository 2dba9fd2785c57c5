-- `locks::entries_fault` meets its contract. The invariant: the entries left, above the last one's number, come to what all come to.
-- Assumes nothing.
use Prim.Native.Nat.{◌*◌, ◌-◌, ◌/◌}
use lib.ListN.{length}
use mathlib.Core.Path.{◌≡◌}
use Rattle.format.specs.File.{entries_fault}
use Rattle.bodies.proofs.locks.entries_fault.Given as goal

abbrev pub invariant-loop-i : goal.invariant-loop-i
invariant-loop-i l =
    (l.numbers.variables ≡ l.variables)
    × (entries_fault l.numbers.variables l.numbers.before l.entries (3 * l.i) (length l.entries / 3 - l.i) ≡ entries_fault l.variables 0 l.entries 0 (length l.entries / 3))
