-- `report` meets its contract: it is refused as its tests say, or the runs are made.
-- Assumes nothing.
use Rattle.reports.proofs.Refusing.{refusing}
use Rattle.reports.proofs.report.Goals as goal

pub returns-then-refusal-ne0 : goal.returns-then-refusal-ne0
returns-then-refusal-ne0 c = refusing _ _ _ c.runs_refusal-refusal.ensures c.if-refusal-ne0.true c.refused.ensures
