-- `lines::put_word` meets its contract: the byte that ends it is stored behind the word.
-- Assumes nothing.
use mathlib.Core.Path.{refl}
use Rattle.words.specs.Writes.{front}
use Rattle.lines.proofs.Writing.{front_more}
use native.Mathlib.Omega.{arith}
use Rattle.lines.proofs.put_word.Goals as goal

pub returns : goal.returns
unfolding front
returns c =
    (front_more c.args.out.now c.args.word.now c.args.end c.copy.ensures (omega (arith, c.requires, c.copy.auto.to)), refl)
