-- `lifted_count` meets its contract: the mark tells.
-- Assumes nothing.
use mathlib.Core.Path.{◌∙◌}
use Rattle.probe.proofs.Answering.{in_uncut, in_cut}
use Rattle.probe.proofs.lifted_count.Goals as goal

pub returns-then-m-eq0 : goal.returns-then-m-eq0
returns-then-m-eq0 c = c.from.ensures ∙ in_uncut c.args.m c.if-m-eq0.true

pub returns-else-m-eq0 : goal.returns-else-m-eq0
returns-else-m-eq0 c = in_cut _ c.if-m-eq0.false
