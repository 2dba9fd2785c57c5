-- `clauses_fresh` meets its contract. The invariant: the words of the clauses before c are right.
-- Assumes nothing.
use Rattle.recount.proofs.Recounting.{ClausesDone}
use Rattle.fresh.proofs.Tallied.clauses_fresh.Given as goal

abbrev pub invariant-loop-c : goal.invariant-loop-c
invariant-loop-c l = ClausesDone l.self.lent.plan.tables.now l.self.lent.plan.terms.now l.self.lent.bits.now l.self.tallies.now l.unsatisfied l.c l.self.tallies.now
