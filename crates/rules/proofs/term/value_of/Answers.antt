-- `value_of` meets its contract: the byte of variable v stands at place v − 1.
-- Assumes nothing.
use Rattle.rules.proofs.Terms.{value_read}
use Rattle.rules.proofs.term.value_of.Goals as goal

pub returns : goal.returns
returns c = value_read _ _ _ c.byte_of-i.ensures
