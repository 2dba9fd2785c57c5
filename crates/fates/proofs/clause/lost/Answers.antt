-- The goals that the search leaves.
use native.Mathlib.Omega.{arith}
use mathlib.Core.Path.{sym, ◌∙◌}
use Rattle.bodies.proofs.Tags.{tag_byte}
use Rattle.fates.specs.Rest.{Ran}
use Rattle.fates.proofs.Resting.{begins_room, begins_rules}
use Rattle.fates.proofs.Running.{or_same, keep_rest, keep_lost, keep_more, keep_end}
use Rattle.fates.proofs.clause.lost.Goals as goal

pub run_rules-run-requires : goal.run_rules-run-requires
run_rules-run-requires c =
    begins_rules _ _ (keep_rest _ _ _ _ c.loop-at.invariant c.requires) (sym (tag_byte _ _) ∙ c.loop-at-test.true)

pub loop-at-smaller : goal.loop-at-smaller
unfolding Ran
loop-at-smaller c = omega (arith, c.run_rules-run.ensures.0, begins_room _ _ (keep_rest _ _ _ _ c.loop-at.invariant c.requires))

pub bounds-file-at : goal.bounds-file-at
bounds-file-at c = omega (arith, begins_room _ _ (keep_rest _ _ _ _ c.loop-at.invariant c.requires))

pub returns-then-not-run : goal.returns-then-not-run
returns-then-not-run c =
    keep_lost _ _ _ _ _ _ _ c.loop-at.invariant (sym (tag_byte _ _) ∙ c.loop-at-test.true) c.run_rules-run.ensures (or_same _ _) c.if-not-run.true

pub loop-at-preserved : goal.loop-at-preserved
loop-at-preserved c =
    keep_more _ _ _ _ _ _ _ c.loop-at.invariant (sym (tag_byte _ _) ∙ c.loop-at-test.true) c.run_rules-run.ensures (or_same _ _) c.if-not-run.false

pub returns : goal.returns
returns c = keep_end _ _ _ _ c.loop-at.invariant (λ t. c.loop-at-test.false (tag_byte _ _ ∙ t))
