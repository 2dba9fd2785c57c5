-- The goals that the search leaves.
use Rattle.tables.proofs.Entered.{written_start, written_more, written_end}
use Rattle.tables.proofs.entries.put_terms.Goals as goal

pub loop-i-init : goal.loop-i-init
loop-i-init c = written_start _ _ _

pub loop-i-preserved : goal.loop-i-preserved
loop-i-preserved c = written_more c.loop-i.invariant _ c.loop-i-test.true c.requires c.put_term.ensures

pub returns : goal.returns
returns c = written_end c.loop-i.invariant c.loop-i-test.false
