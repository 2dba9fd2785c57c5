-- `sum_along` meets its contract. The invariant: the sum of what the clauses before place k count, with that of those behind, is all, and it is no
-- more than the limit. The measure is what is left.
-- Assumes nothing.
use Prim.Native.Nat.{◌-◌, ◌≤◌}
use mathlib.Core.Path.{◌≡◌}
use Rattle.plpb.specs.Equations.{clause_break}
use Rattle.plpb.specs.Count.{capped, capped_break}
use Rattle.counting.specs.Count.{number}
use Rattle.effects.specs.Run.{plan, bits}
use Rattle.freely.proofs.Sums.{Summing}
use Rattle.spoiling.proofs.sum_along.Given as goal

abbrev pub invariant-loop-k : goal.invariant-loop-k
invariant-loop-k l =
    Summing (plan l.run) l.run.x (clause_break (bits l.run) l.run.x) (capped_break (plan l.run) (bits l.run) l.run.x) l.k (number l.sum) × (capped (number l.sum) ≡ number l.sum)
    × (number l.sum ≤ l.limit)

abbrev pub decreases-loop-k : goal.decreases-loop-k
decreases-loop-k l = l.run.end - l.k
