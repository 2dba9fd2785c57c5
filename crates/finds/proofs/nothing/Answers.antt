-- `nothing` meets its contract, case by case.
-- Assumes nothing.
use Rattle.finds.specs.Whole.{Empty}
use Rattle.finds.proofs.nothing.Goals as goal

pub returns-in-Ok : goal.returns-in-Ok
unfolding Empty
returns-in-Ok c = rw c.in-Ok.is c.empty.ensures
