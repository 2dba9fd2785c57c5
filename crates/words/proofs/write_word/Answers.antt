-- `write_word` meets its contract: word i stands at byte 4·i.
-- Assumes nothing.
use mathlib.Core.Path.{◌∙◌}
use Rattle.words.proofs.Writes.{one_word}
use Rattle.words.proofs.write_word.Goals as goal

pub returns : goal.returns
returns c = c.write_u32.ensures ∙ one_word _ _ _
