-- `size_in` meets its contract, by the word of none.
-- Assumes nothing.
use Rattle.effects.proofs.Words.{size_read}
use Rattle.effects.proofs.size_in.Goals as goal

pub returns : goal.returns
returns c = size_read c.args.w (rw c.from.ensures at c.then_some.ensures)
