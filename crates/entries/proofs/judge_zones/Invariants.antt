-- `entries::judge_zones` meets its contract. The invariant: the code stands at the k-th row, and judging from there comes to what judging the whole list
-- does. The measure is the rows left.
-- Assumes nothing.
use Prim.Native.Nat.{◌-◌}
use mathlib.Core.Path.{◌≡◌}
use mathlib.Core.Bool.{not}
use lib.ListN.{length}
use Rattle.rows.specs.Reading.{is_zones}
use Rattle.rows.proofs.Rows.{Place}
use Rattle.lists.specs.Refusals.{judged_from, judged}
use Rattle.entries.specs.Judging.{entries_of, fault_number, missing}
use Rattle.entries.proofs.judge_zones.Given as goal

abbrev pub invariant-loop-rest : goal.invariant-loop-rest
invariant-loop-rest l =
    Place (is_zones l.listed) l.s l.k l.rest
    × (judged_from (missing (fault_number l.fault) (is_zones l.listed) (entries_of (is_zones l.listed) l.s) (entries_of (not (is_zones l.listed)) l.other)) (length (entries_of (is_zones l.listed) l.s) - l.k) l.k
    ≡ judged (missing (fault_number l.fault) (is_zones l.listed) (entries_of (is_zones l.listed) l.s) (entries_of (not (is_zones l.listed)) l.other)) (entries_of (is_zones l.listed) l.s))

abbrev pub decreases-loop-rest : goal.decreases-loop-rest
decreases-loop-rest l = length (entries_of (is_zones l.listed) l.s) - l.k
