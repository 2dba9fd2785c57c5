-- `races::put_parts` meets its contract. The invariant: the races before this one have their parts, and the others are as they were.
-- Assumes nothing.
use Rattle.std.proofs.Common.{◌≡◌}
use Rattle.division.specs.Eight.{laid}
use Rattle.races.proofs.Turns.{mix}
use Rattle.races.proofs.put_parts.Given as goal

abbrev pub invariant-loop-i : goal.invariant-loop-i
invariant-loop-i l = l.races ≡ mix (laid l.p) l.i l.initial.races
