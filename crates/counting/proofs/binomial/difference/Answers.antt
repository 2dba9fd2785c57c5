-- `difference` meets its contract, case by case.
-- Assumes nothing.
use mathlib.Core.Path.{sym}
use Rattle.plpb.specs.Count.{cap}
use Rattle.plpb.proofs.Capped.{capped_large}
use Rattle.counting.proofs.Difference.{too_few}
use Rattle.counting.proofs.binomial.difference.Goals as goal

pub returns-then-m-w : goal.returns-then-m-w
returns-then-m-w c = too_few _ _ _ c.if-m-w.true

pub returns-then-surely_past : goal.returns-then-surely_past
unfolding cap
returns-then-surely_past c = sym (capped_large _ (c.surely_past.ensures c.if-surely_past.true))
