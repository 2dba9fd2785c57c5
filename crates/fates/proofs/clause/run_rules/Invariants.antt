-- `clause::run_rules` meets its contract. The invariant: what was found so far and the rules left say what all rules say. The measure is the bytes
-- left.
-- Assumes nothing.
use Prim.Native.Nat.{◌-◌}
use lib.ListN.{length}
use Rattle.fates.specs.Codes.{decoded}
use Rattle.fates.proofs.Running.{Running}
use Rattle.fates.proofs.clause.run_rules.Given as goal

abbrev pub invariant-loop-at : goal.invariant-loop-at
invariant-loop-at l = Running (decoded l.map.words.now) l.file l.from l.at l.met l.kept

abbrev pub decreases-loop-at : goal.decreases-loop-at
decreases-loop-at l = length l.file - l.at
