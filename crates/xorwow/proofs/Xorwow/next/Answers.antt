-- `next` meets its contract: each word moves on, and the newest is joined of the oldest and the newest before it.
-- Assumes nothing.
use Rattle.xorwow.specs.Xorwow.{step}
use Rattle.xorwow.proofs.Xorwow.next.Goals as goal

pub returns : goal.returns
unfolding step
returns c = cc
