-- `Rising::takes` meets its contract: the two tests are those of the definition.
-- Assumes nothing.
use borrow.Author.Tests.{lt-ltb, le-ltb}
use Rattle.plpb.specs.Lists.{◌and◌}
use Rattle.bodies.proofs.rising.Rising.takes.Goals as goal

pub returns-then-self-variable : goal.returns-then-self-variable
unfolding ◌and◌
returns-then-self-variable c = simp (lt-ltb _ _ c.if-self-variable.true)

pub returns-else-self-variable : goal.returns-else-self-variable
unfolding ◌and◌
returns-else-self-variable c = simp (le-ltb _ _ c.if-self-variable.false)
