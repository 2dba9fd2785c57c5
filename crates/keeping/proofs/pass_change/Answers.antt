-- `pass_change` meets its contract: where the rule's holding is as it was, the counts are as they were.
-- Assumes nothing.
use Rattle.keeping.proofs.Turning.{beq_same, none_passed}
use Rattle.keeping.proofs.pass_change.Goals as goal

pub returns-then-change : goal.returns-then-change
returns-then-change c = none_passed _ (beq_same _ _ c.if-change.true)
