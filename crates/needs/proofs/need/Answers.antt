-- `need` meets its contract, by cases on the size.
-- Assumes nothing.
use mathlib.Core.Path.{◌∙◌}
use Rattle.needs.proofs.Words.{need_none, need_never, need_some}
use Rattle.needs.proofs.need.Goals.{then-size-eq0-via-then-size-eq0, then-size-eq0-via-else-size-eq0+then-size-eq-NEVER}
use Rattle.needs.proofs.need.Goals as goal

pub returns : goal.returns
returns c = c.saturating_sub.ensures ∙ need_some _ _ c.if-size-eq0.false c.if-size-eq-NEVER.false

pub returns-then-size-eq0 : goal.returns-then-size-eq0
returns-then-size-eq0 c =
    elim c.then-size-eq0.branch [
      | then-size-eq0-via-then-size-eq0 w ↦ need_none _ _ w.if-size-eq0.true
      | then-size-eq0-via-else-size-eq0+then-size-eq-NEVER w ↦ need_never _ _ w.if-size-eq0.false w.if-size-eq-NEVER.true
    ]
