-- `pass_clause` meets its contract: the clause's count is written, then the total.
-- Assumes nothing.
use borrow.Author.Rules.{rules}
use native.Mathlib.Omega.{arith}
use Rattle.recount.proofs.Keeping.{tally_wrote}
use Rattle.flips.proofs.Passing.{clause_passed}
use Rattle.flips.proofs.pass_clause.Goals as goal

pub returns : goal.returns
returns c =
    let k = c.requires in
    let w = tally_wrote _ c.exchanged-after.result _ _ (omega (arith, k.clause)) (search rules) k.room c.write_word.ensures in
    let v = tally_wrote _ c.exchanged.result _ _ (omega arith) (search rules) (omega (arith, k.room, w.size)) c.write_word-2.ensures in
    clause_passed k c.word-before.ensures c.word-total.ensures c.exchanged-after.ensures c.exchanged.ensures w v
