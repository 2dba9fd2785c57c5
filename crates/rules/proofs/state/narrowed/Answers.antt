-- `narrowed` meets its contract.
-- Assumes nothing.
use Rattle.rules.proofs.States.{narrowed_is}
use Rattle.rules.proofs.state.narrowed.Goals as goal

pub returns : goal.returns
returns c = narrowed_is _ _ c.mul.ensures c.mul-2.ensures c.mul-3.ensures
