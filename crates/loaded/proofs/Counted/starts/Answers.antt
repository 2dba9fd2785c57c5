-- The goals that the search leaves.
use native.Mathlib.Omega.{arith}
use mathlib.Core.Path.{ap}
use Prim.Native.Nat.{◌+◌}
use Rattle.loaded.proofs.Falls.{chain_here, chain_next, starts_turn, starts_over}
use Rattle.loaded.proofs.Counted.starts.Goals as goal

pub overflow_add-at : goal.overflow_add-at
overflow_add-at c =
    let at = c.loop-r in
    let l = chain_here _ _ _ _ _ _ c.loop-r-test.true at.invariant.1 at.invariant.2 in
    omega (arith, l.fits, c.index-at.ensures, c.args.self.limits.3)

pub overflow_sub-at : goal.overflow_sub-at
overflow_sub-at c =
    let at = c.loop-r in
    let l = chain_here _ _ _ _ _ _ c.loop-r-test.true at.invariant.1 at.invariant.2 in
    omega (arith, l.some, c.index-at.ensures)

pub overflow_mul-at-in-loop-r : goal.overflow_mul-at-in-loop-r
overflow_mul-at-in-loop-r c =
    let at = c.loop-r in
    let l = chain_here _ _ _ _ _ _ c.loop-r-test.true at.invariant.1 at.invariant.2 in
    omega (arith, l.fits, c.index-at.ensures, c.args.self.limits.3)

pub word-above-requires : goal.word-above-requires
word-above-requires c =
    let at = c.loop-r in
    let l = chain_here _ _ _ _ _ _ c.loop-r-test.true at.invariant.1 at.invariant.2 in
    omega (arith, l.some, l.fits, c.index-at.ensures, c.args.self.limits.3, c.args.self.long.1)

pub loop-r-preserved : goal.loop-r-preserved
loop-r-preserved c =
    let at = c.loop-r in
    let fall = c.fall-count.ensures in
    let l = chain_here _ _ _ _ _ _ c.loop-r-test.true at.invariant.1 at.invariant.2 in
    let next = ap (λ n. at.at + n) c.index-at.ensures in (
      omega (arith, at.invariant.0, fall.1),
      omega (arith, l.fits, c.index-at.ensures),
      chain_next _ _ _ _ _ _ c.loop-r-test.true next at.invariant.2,
      starts_turn _ _ _ _ _ c.word.ensures fall.0 _ _ c.loop-r-test.true next c.word-above.ensures at.invariant.3,
    )

pub returns : goal.returns
returns c = let at = c.loop-r in starts_over _ _ _ _ _ _ _ (omega (arith, c.loop-r-test.false)) at.invariant.3
