-- The goals that the search leaves.
use native.Mathlib.Omega.{arith}
use mathlib.Core.Bool.{Bool}
use mathlib.Core.Path.{sym, ap, ◌∙◌}
use Rattle.plpb.specs.Lists.{◌or◌}
use Rattle.bodies.proofs.Tags.{tag_byte}
use Rattle.tables.specs.Places.{behind_field}
use Rattle.fates.proofs.Resting.{reads_room, reads_rule}
use Rattle.fates.proofs.Running.{or_same, run_start, run_rest, run_more, run_end}
use Rattle.fates.proofs.clause.run_rules.Goals as goal

pub fate-fate-requires : goal.fate-fate-requires
fate-fate-requires c =
    reads_rule _ _ (run_rest _ _ _ _ _ _ c.loop-at.invariant c.requires) (sym (tag_byte _ _) ∙ c.loop-at-test.true)

pub after-at-requires : goal.after-at-requires
after-at-requires c = (reads_rule _ _ (run_rest _ _ _ _ _ _ c.loop-at.invariant c.requires) (sym (tag_byte _ _) ∙ c.loop-at-test.true)).room

pub loop-at-smaller : goal.loop-at-smaller
unfolding behind_field
loop-at-smaller c = omega (arith, c.after-at.ensures, reads_room _ _ (run_rest _ _ _ _ _ _ c.loop-at.invariant c.requires))

pub loop-at-preserved : goal.loop-at-preserved
loop-at-preserved c =
    run_more _ _ _ _ _ _ c.loop-at.invariant (sym (tag_byte _ _) ∙ c.loop-at-test.true) _ c.fate-fate.ensures c.after-at.ensures
    (or_same _ _ ∙ ap (λ (t : Bool). c.loop-at.met or t) c.all_meet-is_met.ensures)
    (or_same _ _ ∙ ap (λ (t : Bool). c.loop-at.kept or t) c.is_some-kept.ensures)

pub loop-at-init : goal.loop-at-init
loop-at-init c = run_start _ _ _

pub bounds-file-at : goal.bounds-file-at
bounds-file-at c = omega (arith, reads_room _ _ (run_rest _ _ _ _ _ _ c.loop-at.invariant c.requires))

pub returns : goal.returns
returns c = run_end _ _ _ _ _ _ c.loop-at.invariant (λ t. c.loop-at-test.false (tag_byte _ _ ∙ t))
