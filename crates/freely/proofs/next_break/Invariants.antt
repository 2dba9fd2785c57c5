-- `next_break` meets its contract. The invariant: nothing before k breaks, and what breaks from k on is all. The measure is what is left.
-- Assumes nothing.
use Prim.Native.Nat.{◌-◌, ◌≤◌}
use Rattle.plpb.specs.Equations.{clause_break}
use Rattle.plpb.specs.Count.{capped_break}
use Rattle.effects.specs.Run.{plan, bits}
use Rattle.freely.proofs.Sums.{Summing}
use Rattle.freely.proofs.next_break.Given as goal

abbrev pub invariant-loop-k : goal.invariant-loop-k
invariant-loop-k l =
    (l.k ≤ l.run.end) × Summing (plan l.run) l.run.x (clause_break (bits l.run) l.run.x) (capped_break (plan l.run) (bits l.run) l.run.x) l.k 0

abbrev pub decreases-loop-k : goal.decreases-loop-k
decreases-loop-k l = l.run.end - l.k
