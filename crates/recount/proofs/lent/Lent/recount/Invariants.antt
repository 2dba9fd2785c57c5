-- `recount` meets its contract. The invariant: the clauses before c are done.
-- Assumes nothing.
use Rattle.recount.proofs.Recounting.{ClausesDone}
use Rattle.recount.proofs.lent.Lent.recount.Given as goal

abbrev pub invariant-loop-c : goal.invariant-loop-c
invariant-loop-c l = ClausesDone l.self.plan.tables.now l.self.plan.terms.now l.self.bits.now l.initial.tallies l.unsatisfied l.c l.tallies
