-- `tables::fields::locks_of` meets its contract: only a field 06 has locks.
-- Assumes nothing.
use Rattle.tables.proofs.Found.{locks_some, locks_none}
use Rattle.tables.proofs.fields.locks_of.Goals as goal

pub returns-then-file-at : goal.returns-then-file-at
returns-then-file-at c = locks_some _ _ _ c.if-file-at.true c.read_size.ensures

pub returns-else-file-at : goal.returns-else-file-at
returns-else-file-at c = locks_none _ _ c.if-file-at.false
