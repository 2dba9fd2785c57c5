-- `constraints::put_terms` meets its contract. The invariant: the terms to come make the whole. The measure is how many there are.
-- Assumes nothing.
use Rattle.constraints.specs.Sides.{turns}
use Rattle.constraints.proofs.Stored.{Going}
use Rattle.constraints.proofs.put_terms.Given as goal

abbrev pub invariant-loop-i : goal.invariant-loop-i
invariant-loop-i l = Going (turns l.side) l.sum.terms.now l.sum.first l.sum.count l.at l.initial.out l.i l.next l.out
