-- `run_good` meets its contract: the ends first, then the entries between them.
-- Assumes nothing.
use native.Mathlib.Omega.{arith}
use Rattle.ordered.proofs.Runs.{run_back, run_past, run_told}
use Rattle.ordered.proofs.Base.run_good.Goals as goal

pub returns-then-to-from : goal.returns-then-to-from
returns-then-to-from c = run_back _ _ _ c.index-from.ensures c.index-to.ensures c.if-to-from.true

pub returns-then-index-to : goal.returns-then-index-to
returns-then-index-to c = run_past _ _ _ c.index-from.ensures c.index-to.ensures c.index.ensures c.if-index-to.true

pub returns : goal.returns
returns c =
    run_told _ _ _ c.index-from.ensures c.index-to.ensures c.index.ensures (omega (arith, c.if-to-from.false)) (omega (arith, c.if-index-to.false)) c.narrow.ensures c.entries_good.ensures
