-- The goals that the search leaves.
use native.Mathlib.Omega.{arith}
use mathlib.Core.Path.{sym, ap, ◌∙◌}
use Rattle.std.specs.Prelude.{Some, None}
use Rattle.effects.proofs.Runs.{run_inside}
use Rattle.effects.proofs.Places.{place_few}
use Rattle.groups.proofs.Runs.{opened}
use Rattle.freely.proofs.Free.{single_spoils, single_group, pick_first, pick_second}
use Rattle.freely.proofs.passed.Goals as goal

pub overflow_add-result : goal.overflow_add-result
overflow_add-result c = omega (arith, place_few (opened c.args.run.now c.requires))

pub returns-then-spoils_at : goal.returns-then-spoils_at
returns-then-spoils_at c =
    pick_first None _ (single_spoils (opened c.args.run.now c.requires) (sym c.has_several.ensures ∙ c.if-not-has_several.true) ∙ sym c.spoils_at.ensures ∙ c.if-spoils_at.true)

pub returns-then-not-has_several : goal.returns-then-not-has_several
returns-then-not-has_several c =
    let g = c.requires in
    let one = sym c.has_several.ensures ∙ c.if-not-has_several.true in
    pick_second None (single_spoils (opened c.args.run.now g) one ∙ sym c.spoils_at.ensures ∙ c.if-spoils_at.false)
    (ap (λ j. Some j) (sym (single_group g (omega (arith, g.last, run_inside c.args.run.now.going)) one)))
