-- `words::word` meets its contract: word i stands at byte 4·i.
-- Assumes nothing.
use Rattle.words.specs.Words.{word_at}
use Rattle.words.proofs.word.Goals as goal

pub returns : goal.returns
unfolding word_at
returns c = c.read_u32.ensures
