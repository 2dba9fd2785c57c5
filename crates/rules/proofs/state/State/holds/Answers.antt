-- `holds` meets its contract: the two tests joined by `&&`.
-- Assumes nothing.
use Rattle.rules.specs.State.{holds_in}
use Rattle.rules.proofs.States.{both_hold, one_fails}
use Rattle.rules.proofs.state.State.holds.Goals as goal

pub returns-then-below : goal.returns-then-below
unfolding holds_in
returns-then-below c = both_hold c.below.ensures c.if-below.true c.below-then-below.ensures

pub returns-else-below : goal.returns-else-below
unfolding holds_in
returns-else-below c = one_fails _ c.below.ensures c.if-below.false
