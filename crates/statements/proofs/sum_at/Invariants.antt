-- `statements::sum_at` meets its contract. The invariant: what is known of the terms passed and of those to come is known of all. The measure is what is left of
-- the text.
-- Assumes nothing.
use Prim.Native.Nat.{◌-◌}
use lib.ListN.{length}
use Rattle.statements.proofs.Sums.{Summing}
use Rattle.statements.proofs.sum_at.Given as goal

abbrev pub invariant-loop-term : goal.invariant-loop-term
invariant-loop-term l = Summing l.t l.n l.rest l.before l.count l.above l.lawful

abbrev pub decreases-loop-term : goal.decreases-loop-term
decreases-loop-term l = length l.t.bytes.now - l.rest.at
