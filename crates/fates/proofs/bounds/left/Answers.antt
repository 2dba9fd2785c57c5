-- `bounds::left` meets its contract, by what the sums meet.
-- Assumes nothing.
use mathlib.Core.Bool.{Bool}
use mathlib.Core.Path.{sym, ap, ◌∙◌}
use mir.Facts.{to_z-of_z}
use Rattle.plpb.specs.Lists.{◌and◌}
use Rattle.counting.specs.Bound.{bound_of as as_bound}
use Rattle.fates.specs.Rules.{still}
use Rattle.fates.proofs.bounds.left.Goals as goal
use Rattle.fates.proofs.bounds.left.Goals.{then-not-at_least-via-then-not-at_least, then-not-at_least-via-else-not-at_least+then-not-at_most}

pub returns-then-not-at_least : goal.returns-then-not-at_least
unfolding ◌and◌
returns-then-not-at_least c =
    let greatest = rw (to_z-of_z c.ranges.greatest) at c.at_least.ensures in
    elim c.then-not-at_least.branch [ then-not-at_least-via-then-not-at_least w ↦ rw (sym greatest ∙ w.if-not-at_least.true) | then-not-at_least-via-else-not-at_least+then-not-at_most w ↦ rw (sym greatest ∙ w.if-not-at_least.false, sym (rw (to_z-of_z c.ranges.least) at w.at_most.ensures) ∙ w.if-not-at_most.true) ]

pub returns : goal.returns
unfolding ◌and◌
returns c =
    let b = c.args.b in (
      rw
          (sym (rw (to_z-of_z c.ranges.greatest) at c.at_least.ensures) ∙ c.if-not-at_least.false, sym (rw (to_z-of_z c.ranges.least) at c.at_most.ensures) ∙ c.if-not-at_most.false),
      c.unmet.ensures ∙ ap (λ (t : Bool). still t (as_bound b.lower)) (rw (to_z-of_z c.ranges.least) at c.at_least-2.ensures),
      c.unmet-2.ensures ∙ ap (λ (t : Bool). still t (as_bound b.upper)) (rw (to_z-of_z c.ranges.greatest) at c.at_most-2.ensures),
    )
