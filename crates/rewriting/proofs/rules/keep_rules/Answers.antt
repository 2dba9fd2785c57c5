-- The goals that the search leaves.
use native.Mathlib.Omega.{arith}
use mathlib.Core.Path.{sym, ◌∙◌}
use Rattle.bodies.proofs.Tags.{tag_byte}
use Rattle.tables.specs.Places.{behind_field}
use Rattle.fates.proofs.Resting.{rest_room, rest_rule}
use Rattle.rewriting.proofs.Rulewise.{moving_more, moving_end}
use Rattle.rewriting.proofs.rules.keep_rules.Goals as goal

pub loop-file-smaller : goal.loop-file-smaller
unfolding behind_field
loop-file-smaller c = let m = c.loop-file.invariant.1 _ _ _ c.requires.0.3 in omega (arith, c.after-next.ensures, rest_room m.rest, m.laying.same)

pub bounds-file-at : goal.bounds-file-at
bounds-file-at c = let m = c.loop-file.invariant.1 _ _ _ c.requires.0.3 in omega (arith, rest_room m.rest)

pub after-next-requires : goal.after-next-requires
after-next-requires c =
    let m = c.loop-file.invariant.1 _ _ _ c.requires.0.3 in (rest_rule m.rest (sym (tag_byte _ _) ∙ c.loop-file-test.true)).fits.room

pub keep_rule-end-requires : goal.keep_rule-end-requires
keep_rule-end-requires c =
    let m = c.loop-file.invariant.1 _ _ _ c.requires.0.3 in
    ((rest_rule m.rest (sym (tag_byte _ _) ∙ c.loop-file-test.true)).fits, m.behind)

pub loop-file-preserved : goal.loop-file-preserved
loop-file-preserved c = moving_more _ _ _ _ _ _ _ c.loop-file.invariant (sym (tag_byte _ _) ∙ c.loop-file-test.true) c.after-next.ensures c.keep_rule-end.ensures

pub returns : goal.returns
returns c = moving_end _ _ _ _ _ _ _ c.loop-file.invariant (λ t. c.loop-file-test.false (tag_byte _ _ ∙ t))
