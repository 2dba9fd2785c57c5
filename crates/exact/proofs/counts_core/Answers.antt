-- `counts_core` meets its contract: the sums of the equations are the numbers of expansion clauses.
-- Assumes nothing.
use Rattle.recount.proofs.Laid.{variables_word}
use Rattle.exact.proofs.Summing.{counts_whole}
use Rattle.exact.proofs.counts_core.Goals as goal

pub returns : goal.returns
returns c =
    let l = c.args.t.now.laid in
    let e = c.of-lent.ensures in
    counts_whole _ _ _ (record { laid = l; bytes = c.requires.0 }) _ (variables_word _ _ l) _ c.requires.1 c.requires.2 (rw (e.0, e.1) at c.counts.ensures)
