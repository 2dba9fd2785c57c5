-- `fill_needs` meets its contract. The invariant: the rules before r have their needs.
-- Assumes nothing.
use Prim.Native.Nat.{◌≤◌}
use Rattle.recount.specs.Plans.{plan}
use Rattle.needs.proofs.Filling.{Filled}
use Rattle.needs.proofs.fill_needs.Given as goal

abbrev pub invariant-loop-r : goal.invariant-loop-r
invariant-loop-r l = (l.r ≤ l.rules) × Filled (plan l.t) l.initial.tallies l.r l.tallies
