-- The goals that the search leaves.
use Prim.Native.Nat.{ℕ, ◌+◌, ◌≤◌, ◌<◌}
use native.Mathlib.Omega.{arith}
use mathlib.Core.Path.{◌≡◌, sym, ap, ◌∙◌}
use borrow.Author.Tests.{ltb-true}
use Rattle.plpb.specs.Equations.{clause_break}
use Rattle.plpb.specs.Count.{cap, capped, capped_break}
use Rattle.plpb.proofs.Capped.{capped_zero, capped_twice}
use Rattle.counting.specs.Count.{number}
use Rattle.order.specs.Order.{run_end}
use Rattle.order.proofs.Groups.{no_break}
use Rattle.effects.specs.declared.run.Run.{Run}
use Rattle.effects.specs.Run.{plan, bits}
use Rattle.freely.proofs.Sums.{Summing, sum_start, sum_next, sum_end_lem, break_counted}
use Rattle.spoiling.specs.declared.Step.{Step}
use Rattle.spoiling.specs.Along.{Starts, Stepped}
use Rattle.spoiling.proofs.Counting.{sum_starts, given_up, given_cut, given_whole}
use Rattle.spoiling.proofs.sum_along.Goals as goal

-- One turn.
module _ (r : Run) {k sum : ℕ} (s : Summing (plan r) r.x (clause_break (bits r) r.x) (capped_break (plan r) (bits r) r.x) k sum) (h : k < r.end) where
  here : k < run_end (plan r) r.x
  here = omega (arith, r.ends)

  starts : Starts r k
  starts = sum_starts r (no_break (bits r) r.x) s h

  module _ {t : Step} (d : Stepped (clause_break (bits r) r.x) r k t) where
    further : (k < t.next) × (t.next ≤ r.end)
    further = let g = starts.begins in (omega (arith, d.ends, g.some), omega (arith, d.ends, g.last, r.ends))

    module _ {next : ℕ} (f : next ≡ capped (sum + number t.count)) where
      goes : Summing (plan r) r.x (clause_break (bits r) r.x) (capped_break (plan r) (bits r) r.x) t.next next
      goes = sum_next r.going (no_break (bits r) r.x) s here d.ends d.counted f

      stays : capped next ≡ next
      stays = ap capped f ∙ capped_twice _ ∙ sym f

pub loop-k-init : goal.loop-k-init
loop-k-init c =
    let r = c.args.run.now in
    (rw (break_counted r.going, ← r.begins) at (sum_start r.going (clause_break (bits r) r.x)), capped_zero, omega arith)

pub count_at-t-requires : goal.count_at-t-requires
count_at-t-requires c = starts c.args.run.now c.loop-k.invariant.0 c.loop-k-test.true

pub returns-then-limit-rank : goal.returns-then-limit-rank
returns-then-limit-rank c =
    let r = c.args.run.now in
    let s = c.loop-k.invariant.0 in
    let h = c.loop-k-test.true in
    given_up r.going (no_break _ r.x) (goes r s h c.count_at-t.ensures c.add-sum.ensures) (stays r s h c.count_at-t.ensures c.add-sum.ensures)
    c.rank-in-loop-k.ensures.0 c.if-limit-rank.true

pub returns-then-is_cut : goal.returns-then-is_cut
returns-then-is_cut c =
    let r = c.args.run.now in
    let s = c.loop-k.invariant.0 in
    let h = c.loop-k-test.true in
    given_cut r.going (no_break _ r.x) (goes r s h c.count_at-t.ensures c.add-sum.ensures) (stays r s h c.count_at-t.ensures c.add-sum.ensures)
    c.rank-then-is_cut.ensures.0 (ltb-true cap _ (sym c.is_cut.ensures ∙ c.if-is_cut.true))
    (omega (arith, c.rank-then-is_cut.ensures.0, c.rank-in-loop-k.ensures.0, c.if-limit-rank.false))

pub loop-k-smaller-then-rank-eq0 : goal.loop-k-smaller-then-rank-eq0
loop-k-smaller-then-rank-eq0 c =
    let f = further c.args.run.now c.loop-k.invariant.0 c.loop-k-test.true c.count_at-t.ensures in
    omega (arith, f.0, f.1)

pub loop-k-preserved-then-rank-eq0 : goal.loop-k-preserved-then-rank-eq0
loop-k-preserved-then-rank-eq0 c =
    let r = c.args.run.now in
    let i = c.loop-k.invariant in
    let same : number c.loop-k.sum ≡ number c.loop-k.sum + number c.count_at-t.result.count = omega (arith, c.rank.ensures.0, c.if-rank-eq0.true) in
    (goes r i.0 c.loop-k-test.true c.count_at-t.ensures (sym i.1 ∙ ap capped same), i.1, i.2)

pub loop-k-smaller : goal.loop-k-smaller
loop-k-smaller c =
    let f = further c.args.run.now c.loop-k.invariant.0 c.loop-k-test.true c.count_at-t.ensures in
    omega (arith, f.0, f.1)

pub loop-k-preserved : goal.loop-k-preserved
loop-k-preserved c =
    let r = c.args.run.now in
    let s = c.loop-k.invariant.0 in
    let h = c.loop-k-test.true in
    (goes r s h c.count_at-t.ensures c.add-sum.ensures, stays r s h c.count_at-t.ensures c.add-sum.ensures, omega (arith, c.rank-in-loop-k.ensures.0, c.if-limit-rank.false))

pub returns : goal.returns
returns c =
    let r = c.args.run.now in
    let i = c.loop-k.invariant in
    given_whole (c.rank-2.ensures.0 ∙ sym i.1 ∙ sum_end_lem r.going (no_break _ r.x) i.0 (omega (arith, c.loop-k-test.false, r.ends))) (omega (arith, c.rank-2.ensures.0, i.2))
