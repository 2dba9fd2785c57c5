-- The goals that the search leaves.
use native.Mathlib.Omega.{arith}
use Rattle.counts.proofs.Passing.{sum_none, starts, goes, further, past, sum_all}
use Rattle.counts.proofs.make_of.Goals as goal

pub past_met-k-requires : goal.past_met-k-requires
past_met-k-requires c = let r = c.args.run.now in (omega arith, omega (arith, (sum_none r).0.along.last, r.begins, r.ends))

pub loop-k-init : goal.loop-k-init
loop-k-init c = let r = c.args.run.now in past r c.past_met-k.ensures (sum_none r)

pub count_at-t-requires : goal.count_at-t-requires
count_at-t-requires c = starts c.args.run.now c.loop-k.invariant c.loop-k-test.true

pub past_met-k-requires-in-loop-k : goal.past_met-k-requires-in-loop-k
past_met-k-requires-in-loop-k c =
    let r = c.args.run.now in
    let f = further r c.loop-k.invariant c.loop-k-test.true c.count_at-t.ensures.ends in
    let g = (starts r c.loop-k.invariant c.loop-k-test.true).begins in
    (omega (arith, f.0, g.first, r.begins), f.1)

pub loop-k-smaller : goal.loop-k-smaller
loop-k-smaller c =
    let f = further c.args.run.now c.loop-k.invariant c.loop-k-test.true c.count_at-t.ensures.ends in
    let e = c.past_met-k-in-loop-k.ensures in
    omega (arith, f.0, e.low, e.high)

pub loop-k-preserved : goal.loop-k-preserved
loop-k-preserved c =
    let r = c.args.run.now in
    past r c.past_met-k-in-loop-k.ensures (goes r c.loop-k.invariant c.loop-k-test.true c.count_at-t.ensures c.add-sum.ensures)

pub returns : goal.returns
returns c = sum_all c.args.run.now c.loop-k.invariant (omega (arith, c.loop-k-test.false))
