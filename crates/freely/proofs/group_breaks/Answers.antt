-- `group_breaks` meets its contract: yes is said only of a place of the run whose clause breaks.
-- Assumes nothing.
use mathlib.Core.Path.{sym, ◌∙◌}
use Rattle.effects.proofs.Visits.{visited}
use Rattle.freely.proofs.Free.{clause_breaks, within}
use Rattle.freely.proofs.group_breaks.Goals as goal

pub returns : goal.returns
returns c = λ e.
    let at = c.at.ensures in
    clause_breaks (visited c.args.run.now (within _ _ _ c.contains.ensures.value c.if-not-contains.false)) (rw (at.0, at.1) at (sym c.breaks.ensures ∙ e))
