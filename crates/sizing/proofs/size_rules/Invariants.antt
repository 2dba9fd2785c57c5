-- `size_rules` meets its contract. The invariant: the rules before r have their words.
-- Assumes nothing.
use Prim.Native.Nat.{◌≤◌}
use Rattle.sizing.proofs.Sizing.{Before}
use Rattle.sizing.proofs.size_rules.Given as goal

abbrev pub invariant-loop-r : goal.invariant-loop-r
invariant-loop-r l = (l.r ≤ l.rules) × Before l.t.tables.now l.t.terms.now l.initial.tallies l.r l.tallies
