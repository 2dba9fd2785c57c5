-- `clause_shares` meets its contract. The invariant: the shares of the rules before r are joined.
-- Assumes nothing.
use Rattle.counting.specs.Shares.{shares_in}
use Rattle.words.specs.Words.{word_at}
use Rattle.rules.specs.Terms.{bits_in}
use Rattle.exact.proofs.Summing.{SharesDone}
use Rattle.exact.proofs.Asked.clause_shares.Given as goal

abbrev pub invariant-loop-r : goal.invariant-loop-r
invariant-loop-r l = SharesDone (word_at l.self.lent.plan.tables.now) (word_at l.self.lent.plan.terms.now) (bits_in l.self.lent.bits.now) l.c l.self.x l.r-end l.r (shares_in l.shares)
