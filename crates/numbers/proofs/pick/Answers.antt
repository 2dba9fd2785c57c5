-- The goals that the search leaves.
use native.Mathlib.Omega.{arith}
use mathlib.Core.Path.{refl, sym, ap, ◌∙◌}
use Rattle.plpb.specs.Numbers.{take_pick, too_few}
use Rattle.numbers.specs.Taking.{taken_of}
use Rattle.numbers.proofs.Taking.{pick_keeps, pick_discards, pick_ends}
use Rattle.numbers.proofs.pick.Goals as goal

pub loop-at-init : goal.loop-at-init
unfolding take_pick
loop-at-init c = refl

pub returns-then-r-place-le-RANGE : goal.returns-then-r-place-le-RANGE
unfolding taken_of
returns-then-r-place-le-RANGE c =
    let loop = c.loop-at in
    sym (loop.invariant ∙ pick_keeps c.args.numbers.now c.args.m loop.at c.requires.0 c.loop-at-test.true c.word-r.ensures c.if-r-place-le-RANGE.true)

pub loop-at-preserved : goal.loop-at-preserved
loop-at-preserved c =
    let loop = c.loop-at in
    loop.invariant ∙ pick_discards c.args.numbers.now c.args.m loop.at c.requires.0 c.loop-at-test.true c.word-r.ensures c.if-r-place-le-RANGE.false

pub returns : goal.returns
unfolding taken_of
returns c =
    let loop = c.loop-at in
    sym (loop.invariant ∙ pick_ends c.args.numbers.now c.args.m loop.at c.loop-at-test.false ∙ ap too_few (omega (arith, c.loop-at-test.false, c.loop-at.auto.at-end, c.requires.2)))
