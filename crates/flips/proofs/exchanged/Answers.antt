-- The goals that the search leaves.
use borrow.Author.Rules.{rules}
use Rattle.order.specs.Along.{exchanged}
use Rattle.flips.proofs.exchanged.Goals as goal

pub returns : goal.returns
unfolding exchanged
returns c = let e = c.from.ensures in search rules
