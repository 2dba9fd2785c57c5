-- `division::placed` meets its contract. The invariant: the parts before this one are laid, and they come to the next first place.
-- Assumes nothing.
use mathlib.Core.Path.{◌≡◌}
use lib.ListN.{take}
use Rattle.division.specs.Split.{sum, parts}
use Rattle.division.proofs.Stepwise.{mixed}
use Rattle.division.proofs.placed.Given as goal

abbrev pub invariant-loop-i : goal.invariant-loop-i
invariant-loop-i l = (l.p-items ≡ mixed (parts 0 l.fn.l) l.initial.p-items l.i) × (l.at ≡ sum (take l.i l.fn.l))
