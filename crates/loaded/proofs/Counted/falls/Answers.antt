-- The goals that the search leaves.
use native.Mathlib.Omega.{arith}
use Rattle.loaded.proofs.Falls.{falls_turn, falls_over}
use Rattle.loaded.proofs.Counted.falls.Goals as goal

pub loop-i-preserved : goal.loop-i-preserved
loop-i-preserved c =
    let at = c.loop-i in
    let fall = c.fall-count.ensures in
    (omega (arith, at.invariant.0, fall.1), falls_turn _ _ _ _ _ c.word-variable.ensures fall.0 c.loop-i-test.true at.invariant.1)

pub returns : goal.returns
returns c = let at = c.loop-i in falls_over _ _ _ _ _ (omega (arith, c.loop-i-test.false)) at.invariant.1
