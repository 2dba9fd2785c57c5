-- `put_needs` meets its contract: two words next to each other.
-- Assumes nothing.
use borrow.Author.Rules.{rules}
use Rattle.words.proofs.Writes.{word_wrote}
use Rattle.needs.proofs.Filling.{needs_put}
use Rattle.needs.proofs.put_needs.Goals as goal

pub returns : goal.returns
returns c =
    let x = word_wrote _ c.need.result _ _ (search rules) (search rules) c.write_word.ensures in
    let y = word_wrote _ c.need-2.result _ _ (search rules) (search rules) c.write_word-2.ensures in
    needs_put c.need.ensures c.need-2.ensures x y
