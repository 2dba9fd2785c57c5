-- `lock` meets its contract: the word of its value.
-- Assumes nothing.
use Rattle.tables.proofs.Dense.{lock_lays}
use Rattle.tables.proofs.sections.lock.Goals as goal

pub returns : goal.returns
returns c = lock_lays _ _ c.read_size.ensures c.lock_word.ensures
