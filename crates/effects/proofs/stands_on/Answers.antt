-- `stands_on` meets its contract, by the side's lowest bit.
-- Assumes nothing.
use Prim.Native.Nat.{◌%◌}
use mathlib.Core.Path.{refl}
use borrow.Author.Tests.{eq-eqb, ne_eqb}
use Rattle.effects.specs.Kept.{stands_on}
use Rattle.effects.proofs.stands_on.Goals as goal

pub returns-then-side-eq1 : goal.returns-then-side-eq1
unfolding stands_on
returns-then-side-eq1 c = rw (eq-eqb (c.args.side % 2) 1 c.if-side-eq1.true) refl

pub returns-else-side-eq1 : goal.returns-else-side-eq1
unfolding stands_on
returns-else-side-eq1 c = rw (ne_eqb (c.args.side % 2) 1 c.if-side-eq1.false) refl
