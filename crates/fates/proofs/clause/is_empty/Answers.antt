-- `clause::is_empty` meets its contract, by which bounds are left.
-- Assumes nothing.
use Rattle.fates.proofs.Running.{lower_none, lower_some}
use mathlib.Core.Path.{◌∙◌}
use Rattle.fates.proofs.clause.is_empty.Goals as goal

pub returns-then-is_none : goal.returns-then-is_none
returns-then-is_none c = lower_none _ c.if-is_none.ensures c.is_none-then-is_none.ensures

pub returns-else-is_none : goal.returns-else-is_none
returns-else-is_none c = c.if-is_none.false ∙ lower_some _ c.if-is_none.ensures
