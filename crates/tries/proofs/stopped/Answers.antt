-- `stopped` meets its contract.
-- Assumes nothing.
use mathlib.Core.Path.{refl}
use Rattle.tries.specs.Steps.{stopped_at}
use Rattle.tries.proofs.stopped.Goals as goal

pub returns-in-Failed : goal.returns-in-Failed
unfolding stopped_at
returns-in-Failed c = rw c.in-Failed.is refl

pub returns-in-Short : goal.returns-in-Short
unfolding stopped_at
returns-in-Short c = rw c.in-Short.is refl
