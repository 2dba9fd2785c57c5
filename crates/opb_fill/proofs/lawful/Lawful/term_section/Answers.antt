-- The goals that the search leaves.
use native.Mathlib.Omega.{arith}
use mathlib.Core.Path.{sym}
use Rattle.opb_fill.proofs.Filled.{first_reached, going_here, goes_on, term_start, term_space, term_part, term_limit, term_more_space, term_more, term_end_lem}
use Rattle.opb_fill.proofs.lawful.Lawful.term_section.Goals as goal

pub loop-text-init : goal.loop-text-init
loop-text-init c =
    let first = first_reached c.from.result c.from.ensures c.constraint_behind-text.ensures in
    let filled = term_start _ _ c.args.self.says c.requires.terms_len first in
    rw first.bytes (filled, term_space filled)

pub put_sum-end-requires : goal.put_sum-end-requires
put_sum-end-requires c =
    let inv = c.loop-text.invariant.0 in
    let l = c.loop-text-test.true in
    ((going_here inv.going l).range, term_part inv l, term_limit inv)

pub overflow_add-end : goal.overflow_add-end
overflow_add-end c = omega (arith, c.put_sum-end.ensures.0, term_more_space c.loop-text.invariant.0 c.loop-text-test.true)

pub loop-text-smaller : goal.loop-text-smaller
loop-text-smaller c = goes_on c.loop-text.text _ c.constraint_behind-text-in-loop-text.ensures c.loop-text-test.true

pub loop-text-preserved : goal.loop-text-preserved
loop-text-preserved c =
    let inv = c.loop-text.invariant.0 in
    let put = c.put_sum-end in
    let next = c.constraint_behind-text-in-loop-text.ensures in
    let filled = term_more inv c.loop-text-test.true _ _ _ next put.ensures.0 put.ensures.1 in
    rw next.bytes (filled, term_space filled)

pub returns : goal.returns
returns c =
    let inv = c.loop-text.invariant.0 in
    rw (sym inv.bytes) (term_end_lem inv c.loop-text-test.false _ c.clear.ensures)
