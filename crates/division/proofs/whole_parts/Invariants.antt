-- `division::whole_parts` meets its contract. The invariant: the stakes before this one are shares, the others stakes.
-- Assumes nothing.
use mathlib.Core.Path.{◌≡◌}
use Rattle.division.specs.Split.{whole_parts}
use Rattle.division.proofs.Stepwise.{mixed}
use Rattle.division.proofs.whole_parts.Given as goal

abbrev pub invariant-loop-x : goal.invariant-loop-x
invariant-loop-x l = l.x-items ≡ mixed (whole_parts l.n l.t l.fn.s) l.fn.s l.x-index
