-- `draft::weight` meets its contract.
-- Assumes nothing.
use mathlib.Core.Path.{sym, ap, ◌∙◌}
use mathlib.Core.Bool.{true, false}
use Rattle.std.specs.Option.{is_some}
use Rattle.draft.proofs.Terms.{weigh_metres, weigh_zone}
use Rattle.draft.proofs.weight.Goals as goal

pub returns-in-None : goal.returns-in-None
returns-in-None c x name e f b z h = weigh_metres x name _ _ (ap is_some c.in-None.is) e z c.number_of.ensures

pub returns-in-Some : goal.returns-in-Some
returns-in-Some c x name e f b z h =
    weigh_zone x name _ _ c.in-Some.zone true (ap is_some c.in-Some.is) f b (rw c.in-Some.is at h) (sym c.if-same.true ∙ c.same.ensures)

pub returns-in-Some-2 : goal.returns-in-Some-2
returns-in-Some-2 c x name e f b z h =
    weigh_zone x name _ _ c.in-Some.zone false (ap is_some c.in-Some.is) f b (rw c.in-Some.is at h) (sym c.if-same.false ∙ c.same.ensures)
