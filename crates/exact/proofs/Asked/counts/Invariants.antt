-- `counts` meets its contract. The invariant: the counts of the clauses before c are summed.
-- Assumes nothing.
use Rattle.plpb.specs.Equations.{clause_break, clause_make}
use Rattle.counting.specs.Count.{number}
use Rattle.words.specs.Words.{word_at}
use Rattle.rules.specs.Terms.{bits_in}
use Rattle.exact.proofs.Summing.{SumDone}
use Rattle.exact.proofs.Asked.counts.Given as goal

abbrev pub invariant-loop-c : goal.invariant-loop-c
invariant-loop-c l =
    SumDone (clause_break (bits_in l.self.lent.bits.now) l.self.x) (word_at l.self.lent.plan.tables.now) (word_at l.self.lent.plan.terms.now) l.c (number l.sum.breaks)
    × SumDone (clause_make (bits_in l.self.lent.bits.now) l.self.x) (word_at l.self.lent.plan.tables.now) (word_at l.self.lent.plan.terms.now) l.c (number l.sum.makes)
