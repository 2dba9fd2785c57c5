-- The goals that the search leaves.
use native.Mathlib.Omega.{arith}
use mathlib.Core.Path.{sym, ◌∙◌}
use Rattle.numbers.proofs.Finding.{zero_counted, other_passed}
use Rattle.numbers.proofs.zeros_among.Goals as goal
use Rattle.numbers.proofs.zeros_among.Goals.{then-word-eq0, else-word-eq0}

pub loop-i-preserved : goal.loop-i-preserved
loop-i-preserved c =
    let loop = c.loop-i in
    elim c.if-word-eq0.branch [
      | then-word-eq0 w ↦
          let next = zero_counted c.args.table.now c.args.base loop.i (sym c.word.ensures ∙ w.if-word-eq0.true) in
          (omega (arith, next, w.zeros-is, loop.invariant.0), omega (arith, w.zeros-is, loop.invariant.1))
      | else-word-eq0 w ↦
          let next = other_passed c.args.table.now c.args.base loop.i (λ e. w.if-word-eq0.false (c.word.ensures ∙ e)) in
          (omega (arith, next, w.zeros-is, loop.invariant.0), omega (arith, w.zeros-is, loop.invariant.1))
    ]
