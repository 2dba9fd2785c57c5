-- `break_by_hint` meets its contract: a count that is shown to be cut is, and the run tells any other.
-- Assumes nothing.
use mathlib.Core.Path.{subst}
use Rattle.spoiling.specs.Along.{UpTo}
use Rattle.spoiling.proofs.break_by_hint.Goals as goal

pub returns-then-cut_at_hint : goal.returns-then-cut_at_hint
returns-then-cut_at_hint c = subst (λ n. UpTo c.args.limit n c.cut_up_to.result) (c.cut_at_hint.ensures c.if-cut_at_hint.true) c.cut_up_to.ensures

pub returns-then-cut_at_last : goal.returns-then-cut_at_last
returns-then-cut_at_last c =
    let e = c.of-run.ensures in
    subst (λ n. UpTo c.args.limit n c.cut_up_to-then-cut_at_last.result) (rw (e.0, e.2) at (c.cut_at_last.ensures c.if-cut_at_last.true)) c.cut_up_to-then-cut_at_last.ensures

pub returns : goal.returns
returns c = let e = c.of-run.ensures in rw (e.0, e.2) at c.sum_along.ensures
