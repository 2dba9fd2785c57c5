-- `moved` meets its contract, by cases on the literal.
-- Assumes nothing.
use mathlib.Core.Path.{refl}
use Rattle.needs.proofs.Words.{true_moved, false_moved}
use Rattle.needs.proofs.KeptRule.moved.Goals as goal

pub returns-then-on : goal.returns-then-on
returns-then-on c = true_moved c.if-on.true refl refl refl refl

pub returns-else-on : goal.returns-else-on
returns-else-on c = false_moved c.if-on.false refl refl refl refl
