-- `least_of` meets its contract. The invariant: those of the first variables listed that have their least count are picked.
-- Assumes nothing.
use Prim.Native.Nat.{◌-◌, ◌≤◌}
use mathlib.Core.Path.{◌≡◌}
use lib.ListN.{take}
use Rattle.picks.specs.Choice.{plan, bits, variables}
use Rattle.least.proofs.Leading.{Leading}
use Rattle.least.proofs.least_of.Given as goal

abbrev pub invariant-loop-i : goal.invariant-loop-i
invariant-loop-i l =
    let list = l.initial.i-iterator in
    let rest = l.i-iterator in
    (list.start ≤ rest.start) × (rest.start ≤ rest.end) × (rest.end ≡ list.end)
    × Leading (plan l.choice) (bits l.choice) (take (rest.start - list.start) (variables l.choice)) l.initial.marks l.marks l.best
