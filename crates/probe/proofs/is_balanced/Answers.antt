-- `is_balanced` meets its contract: the two tests joined by `&&`.
-- Assumes nothing.
use native.Mathlib.Omega.{arith}
use mathlib.Core.Path.{◌∙◌}
use borrow.Author.Tests.{lt-leb}
use Rattle.probe.proofs.Answering.{both, no_sum}
use Rattle.probe.proofs.is_balanced.Goals as goal

pub returns-then-from : goal.returns-then-from
returns-then-from c =
    both c.args.s (omega (arith, c.if-from.true, c.from.ensures, c.from-2.ensures)) c.is_within.ensures

pub returns-else-from : goal.returns-else-from
returns-else-from c =
    lt-leb _ _ c.if-from.false ∙ no_sum c.args.s (omega (arith, c.if-from.false, c.from.ensures, c.from-2.ensures))
