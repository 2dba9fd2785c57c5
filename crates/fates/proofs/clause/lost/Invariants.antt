-- `clause::lost` meets its contract. The invariant: a clause is lost of all exactly if one is of those left. The measure is the bytes left.
-- Assumes nothing.
use Prim.Native.Nat.{◌-◌}
use lib.ListN.{length}
use Rattle.fates.specs.Codes.{decoded}
use Rattle.fates.proofs.Running.{Keeping}
use Rattle.fates.proofs.clause.lost.Given as goal

abbrev pub invariant-loop-at : goal.invariant-loop-at
invariant-loop-at l = Keeping (decoded l.map.words.now) l.file l.from l.at

abbrev pub decreases-loop-at : goal.decreases-loop-at
decreases-loop-at l = length l.file - l.at
