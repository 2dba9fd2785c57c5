-- The goals that the search leaves.
use native.Mathlib.Omega.{arith}
use Rattle.numbers.specs.Finding.{rank}
use Rattle.numbers.proofs.pass_blocks.Goals as goal

pub loop-place-preserved : goal.loop-place-preserved
unfolding rank
loop-place-preserved c =
    let loop = c.loop-place in
    (omega (arith, c.loop-place-test.true), omega (arith, c.zeros_among-zeros.ensures, c.if-place-zeros.false, loop.invariant.1))

pub returns-then-place-zeros : goal.returns-then-place-zeros
unfolding rank
returns-then-place-zeros c =
    let loop = c.loop-place in
    (loop.invariant.0, loop.invariant.1, λ whole. omega (arith, c.zeros_among-zeros.ensures, c.if-place-zeros.true))
