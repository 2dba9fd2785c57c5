-- `put_sizes` meets its contract: three words next to each other.
-- Assumes nothing.
use borrow.Author.Rules.{rules}
use Rattle.words.proofs.Writes.{word_wrote}
use Rattle.sizing.proofs.Sizing.{sizes_put}
use Rattle.sizing.proofs.put_sizes.Goals as goal

pub returns : goal.returns
returns c =
    let x = word_wrote _ c.args.k _ _ (search rules) (search rules) c.write_word.ensures in
    let y = word_wrote _ c.args.a _ _ (search rules) (search rules) c.write_word-2.ensures in
    let z = word_wrote _ c.args.b _ _ (search rules) (search rules) c.write_word-3.ensures in
    sizes_put x y z
