-- `stamp` meets its contract: the word of a variable is written.
-- Assumes nothing.
use native.Mathlib.Omega.{arith}
use Rattle.words.proofs.Writes.{word_wrote}
use Rattle.stamps.proofs.stamp.Goals as goal

pub returns : goal.returns
returns c =
    word_wrote _ _ c.args.marks.now _ (omega (arith, c.requires)) (omega arith)
    c.write_word.ensures
