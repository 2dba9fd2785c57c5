-- `held_with` meets its contract: the state before the flip has the same sizes.
-- Assumes nothing.
use Rattle.rules.specs.State.{holds_in}
use Rattle.flips.proofs.held_with.Goals as goal

pub returns : goal.returns
unfolding holds_in
returns c = c.holds.ensures
