-- `without` meets its contract, case by case.
-- Assumes nothing.
use Rattle.finds.specs.Whole.{Empty}
use Rattle.finds.proofs.without.Goals as goal

pub returns-in-Failed : goal.returns-in-Failed
unfolding Empty
returns-in-Failed c = rw c.in-Failed.is c.empty.ensures

pub returns-in-Short : goal.returns-in-Short
unfolding Empty
returns-in-Short c = rw c.in-Short.is c.empty-in-Short.ensures
