-- The goals that the search leaves.
use native.Mathlib.Omega.{arith}
use mathlib.Core.Path.{ap}
use lib.ListN.{length}
use Rattle.statements.proofs.Sums.{summing_start, summing_on, summing_more, summing_none, summing_end}
use Rattle.statements.proofs.sum_at.Goals as goal

pub loop-term-init : goal.loop-term-init
loop-term-init c = summing_start _ _ c.requires

pub loop-term-smaller : goal.loop-term-smaller
loop-term-smaller c =
    let term = c.in-Some.ensures in
    omega (arith, ap length term.1.rest.bytes, ap length c.loop-term.invariant.bytes, c.in-Some.term.rest.within, summing_on _ _ c.loop-term.invariant _ term.0 term.1 c.term_fits-lawful.ensures)

pub loop-term-preserved : goal.loop-term-preserved
loop-term-preserved c =
    let term = c.in-Some.ensures in
    summing_more _ _ c.loop-term.invariant _ term.0 term.1 c.term_fits-lawful.ensures

pub returns-then-count-eq0 : goal.returns-then-count-eq0
returns-then-count-eq0 c = summing_none _ _ c.loop-term.invariant c.in_default.ensures c.if-count-eq0.true

pub returns : goal.returns
returns c = summing_end _ _ c.loop-term.invariant c.in_default.ensures c.if-count-eq0.false
