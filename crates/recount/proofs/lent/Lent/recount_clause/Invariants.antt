-- `recount_clause` meets its contract. The invariant: the rules before r are done.
-- Assumes nothing.
use Rattle.recount.proofs.Recounting.{RulesDone}
use Rattle.recount.proofs.lent.Lent.recount_clause.Given as goal

abbrev pub invariant-loop-r : goal.invariant-loop-r
invariant-loop-r l = RulesDone l.self.plan.tables.now l.self.plan.terms.now l.self.bits.now l.c l.initial.tallies l.r-end l.holding l.r l.tallies
