-- `terms::bounds_lawful` meets its contract: the sizes of the bounds, then what each mode asks of them.
-- Assumes nothing.
use mathlib.Core.Path.{sym, ap, ◌∙◌}
use mir.Facts.{to_z-of_z}
use Rattle.format.specs.Modes.{mode_number}
use Rattle.bodies.proofs.TermLaws.{by_sizes, lacks_lower, lacks_upper, lacks_none, no_mode, wide_lower, wide_upper}
use Rattle.bodies.proofs.terms.bounds_lawful.Goals as goal

pub returns-in_default : goal.returns-in_default
returns-in_default c = no_mode _ _ _ c.in_default.ensures

pub returns-then-lower-gt1000000000 : goal.returns-then-lower-gt1000000000
returns-then-lower-gt1000000000 c =
    by_sizes _ c.magnitude-lower.ensures (to_z-of_z c.ranges.lower) c.magnitude-upper.ensures (to_z-of_z c.ranges.upper)
    (wide_lower _ _ _ c.if-lower-gt1000000000.true)

pub returns-then-upper-gt1000000000 : goal.returns-then-upper-gt1000000000
returns-then-upper-gt1000000000 c =
    by_sizes _ c.magnitude-lower.ensures (to_z-of_z c.ranges.lower) c.magnitude-upper.ensures (to_z-of_z c.ranges.upper)
    (wide_upper _ _ _ c.if-upper-gt1000000000.true)

pub returns-in-Lower : goal.returns-in-Lower
returns-in-Lower c =
    by_sizes _ c.magnitude-lower.ensures (to_z-of_z c.ranges.lower) c.magnitude-upper.ensures (to_z-of_z c.ranges.upper)
    (lacks_upper _ _ _ (sym c.in-Some.ensures ∙ ap mode_number c.in-Lower.is) c.if-lower-gt1000000000.false c.if-upper-gt1000000000.false)

pub returns-in-Upper : goal.returns-in-Upper
returns-in-Upper c =
    by_sizes _ c.magnitude-lower.ensures (to_z-of_z c.ranges.lower) c.magnitude-upper.ensures (to_z-of_z c.ranges.upper)
    (lacks_lower _ _ _ (sym c.in-Some.ensures ∙ ap mode_number c.in-Upper.is) c.if-lower-gt1000000000.false c.if-upper-gt1000000000.false)

pub returns-in-Both : goal.returns-in-Both
returns-in-Both c =
    by_sizes _ c.magnitude-lower.ensures (to_z-of_z c.ranges.lower) c.magnitude-upper.ensures (to_z-of_z c.ranges.upper)
    (lacks_none _ _ _ (sym c.in-Some.ensures ∙ ap mode_number c.in-Both.is) c.if-lower-gt1000000000.false c.if-upper-gt1000000000.false)
