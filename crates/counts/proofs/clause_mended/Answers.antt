-- `clause_mended` meets its contract: none where the group mends nothing.
-- Assumes nothing.
use mathlib.Core.Path.{sym, ap, ◌∙◌}
use Rattle.plpb.specs.Count.{capped}
use Rattle.plpb.proofs.Capped.{capped_zero}
use Rattle.counts.proofs.clause_mended.Goals as goal

pub returns-then-not-group_mends : goal.returns-then-not-group_mends
returns-then-not-group_mends c = sym (ap capped (c.group_mends.ensures c.if-not-group_mends.true) ∙ capped_zero)
