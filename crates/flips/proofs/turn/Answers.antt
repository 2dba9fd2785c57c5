-- `turn` meets its contract: 1 less a byte is its opposite, and the byte of variable x stands at place x − 1.
-- Assumes nothing.
use Rattle.flips.proofs.Following.{turned_byte}
use Rattle.flips.proofs.turn.Goals as goal

pub returns : goal.returns
returns c = turned_byte _ _ _ c.requires.0 c.opposite.ensures
