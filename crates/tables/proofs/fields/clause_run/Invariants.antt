-- `tables::fields::clause_run` meets its contract. The invariant: from the present place on stand the rules that are left, as many as were not
-- counted. The measure is the bytes left.
-- Assumes nothing.
use Prim.Native.Nat.{◌-◌}
use lib.ListN.{length}
use Rattle.tables.proofs.Found.{Running}
use Rattle.tables.proofs.fields.clause_run.Given as goal

abbrev pub invariant-loop-at : goal.invariant-loop-at
invariant-loop-at l = Running l.file l.from l.at l.rules

abbrev pub decreases-loop-at : goal.decreases-loop-at
decreases-loop-at l = length l.file - l.at
