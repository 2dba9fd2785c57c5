-- `clause_fresh` meets its contract. The invariant: the words of the rules before r are right.
-- Assumes nothing.
use Rattle.recount.proofs.Recounting.{RulesDone}
use Rattle.fresh.proofs.Tallied.clause_fresh.Given as goal

abbrev pub invariant-loop-r : goal.invariant-loop-r
invariant-loop-r l = RulesDone l.self.lent.plan.tables.now l.self.lent.plan.terms.now l.self.lent.bits.now l.c l.self.tallies.now l.r-end l.holding l.r l.self.tallies.now
