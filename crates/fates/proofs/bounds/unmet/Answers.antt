-- `bounds::unmet` meets its contract, by whether the bound is met.
-- Assumes nothing.
use Rattle.fates.specs.Rules.{still}
use Rattle.fates.proofs.bounds.unmet.Goals as goal

pub returns-then-met : goal.returns-then-met
unfolding still
returns-then-met c = rw c.if-met.true

pub returns-else-met : goal.returns-else-met
unfolding still
returns-else-met c = rw c.if-met.false
