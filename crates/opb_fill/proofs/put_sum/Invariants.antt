-- `opb_fill::put_sum` meets its contract. The invariant: the terms passed stand at the front, and the others are still to come. The measure is what is left of the
-- text.
-- Assumes nothing.
use Prim.Native.Nat.{◌-◌}
use lib.ListN.{length}
use Rattle.tokens.specs.Found.{read}
use Rattle.statements.specs.Grammar.{sum_at}
use Rattle.opb_fill.proofs.Terms.{Written}
use Rattle.opb_fill.proofs.put_sum.Given as goal

abbrev pub invariant-loop-term : goal.invariant-loop-term
invariant-loop-term l = Written (read sum_at l.t) l.initial.out l.text l.end l.out

abbrev pub decreases-loop-term : goal.decreases-loop-term
decreases-loop-term l = length l.text.bytes.now - l.text.at
