-- `make_of` meets its contract. The invariant: the sum of what the clauses before place k mend, with that of those behind, is all. The measure is what is left.
-- Assumes nothing.
use Prim.Native.Nat.{◌-◌}
use Rattle.counting.specs.Count.{number}
use Rattle.counts.proofs.Passing.{Sum}
use Rattle.counts.proofs.make_of.Given as goal

abbrev pub invariant-loop-k : goal.invariant-loop-k
invariant-loop-k l = Sum l.run l.k (number l.sum)

abbrev pub decreases-loop-k : goal.decreases-loop-k
decreases-loop-k l = l.run.end - l.k
