-- `clauselines::put_clauses` meets its contract: the clauses, one after another. The invariant: what is left makes the whole, and so do the variables. The measure is how many clauses are left.
-- Assumes nothing.
use Rattle.clauselines.proofs.Clauses.{Going}
use Rattle.clauselines.proofs.put_clauses.Given as goal

abbrev pub invariant-loop-c : goal.invariant-loop-c
invariant-loop-c l = Going l.tables l.terms l.at l.initial.out l.c l.k l.next l.out
