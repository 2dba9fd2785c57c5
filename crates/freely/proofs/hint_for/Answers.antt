-- `hint_for` meets its contract: a place of a clause of one rule is one that a side may be told of.
-- Assumes nothing.
use native.Mathlib.Omega.{arith}
use mathlib.Core.Path.{sym, ◌∙◌}
use Rattle.effects.proofs.Places.{place_few}
use Rattle.effects.proofs.Visits.{visited}
use Rattle.freely.proofs.hint_for.Goals as goal

pub narrow-requires : goal.narrow-requires
narrow-requires c = omega (arith, place_few (visited c.args.run.now c.requires))

pub returns-then-has_several : goal.returns-then-has_several
returns-then-has_several c = λ h. absurd (omega (arith, h, c.narrow.ensures, place_few (visited c.args.run.now c.requires)))

pub returns-else-has_several : goal.returns-else-has_several
returns-else-has_several c = λ h.
    let v = visited c.args.run.now c.requires in
    record { at = c.args.k; first = v.first; last = v.last; single = sym c.has_several.ensures ∙ c.if-has_several.false; told = c.hint_at.ensures }
