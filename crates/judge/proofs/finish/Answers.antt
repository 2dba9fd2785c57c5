-- `judge::finish` meets its contract.
-- Assumes nothing.
use borrow.Author.Tests.{lt-ltb, le-ltb}
use Rattle.judge.specs.Fields.{ending}
use Rattle.judge.proofs.finish.Goals as goal

pub returns-then-next-file : goal.returns-then-next-file
unfolding ending
returns-then-next-file c = rw (lt-ltb _ _ c.if-next-file.true, c.refusal.ensures)

pub returns : goal.returns
unfolding ending
returns c = rw (le-ltb _ _ c.if-next-file.false)
