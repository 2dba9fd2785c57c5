-- `races::put_in` meets its contract. The invariant: the races before i have their parts.
-- Assumes nothing.
use mathlib.Core.Path.{◌≡◌}
use lib.ListN.{length, take}
use Rattle.division.specs.Eight.{laid}
use Rattle.races.specs.Races.{parts_put}
use Rattle.races.proofs.put_in.Given as goal

abbrev pub invariant-loop-i : goal.invariant-loop-i
invariant-loop-i l = (l.races ≡ parts_put (take l.i (laid l.p)) l.initial.races) × (length l.races ≡ length l.initial.races)
