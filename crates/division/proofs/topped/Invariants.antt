-- `division::topped` meets its contract. The invariant: the lengths before this one have what they get of what remains.
-- Assumes nothing.
use mathlib.Core.Path.{◌≡◌}
use Rattle.division.specs.Split.{one_each}
use Rattle.division.proofs.Stepwise.{mixed}
use Rattle.division.proofs.topped.Given as goal

abbrev pub invariant-loop-i : goal.invariant-loop-i
invariant-loop-i l = l.x-items ≡ mixed (one_each l.r l.fn.b) l.fn.b l.i
