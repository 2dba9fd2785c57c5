-- `place_for` meets its contract.
-- Assumes nothing.
use mathlib.Core.Path.{refl}
use borrow.Author.Tests.{lt-ltb, le-ltb}
use Rattle.least.specs.Best.{place_for}
use Rattle.least.proofs.place_for.Goals as goal

pub returns-then-n-best : goal.returns-then-n-best
unfolding place_for
returns-then-n-best c = rw (lt-ltb _ _ c.if-n-best.true) refl

pub returns-else-n-best : goal.returns-else-n-best
unfolding place_for
returns-else-n-best c = rw (le-ltb _ _ c.if-n-best.false) refl
