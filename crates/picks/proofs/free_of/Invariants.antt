-- `free_of` meets its contract. The invariant: those of the first variables listed that break nothing are picked.
-- Assumes nothing.
use Prim.Native.Nat.{◌-◌, ◌≤◌}
use mathlib.Core.Path.{◌≡◌}
use lib.ListN.{take}
use Rattle.plpb.specs.Choice.{with_break}
use Rattle.picks.specs.Picks.{Picked}
use Rattle.picks.specs.Choice.{plan, bits, variables}
use Rattle.picks.proofs.free_of.Given as goal

abbrev pub invariant-loop-i : goal.invariant-loop-i
invariant-loop-i l =
    let list = l.initial.i-iterator in
    let rest = l.i-iterator in
    (list.start ≤ rest.start) × (rest.start ≤ rest.end) × (rest.end ≡ list.end)
    × Picked (plan l.choice) (with_break (plan l.choice) (bits l.choice) 0 (take (rest.start - list.start) (variables l.choice))) l.initial.marks l.marks l.count
