-- The goals that the search leaves.
use Prim.Native.Nat.{ℕ, ◌<◌}
use native.Mathlib.Omega.{arith}
use mathlib.Core.Path.{sym, ap, ◌∙◌}
use mathlib.Core.Bool.{not}
use borrow.Author.Tests.{eq-eqb}
use Rattle.plpb.specs.Equations.{clause_break}
use Rattle.plpb.specs.Count.{capped_break}
use Rattle.plpb.proofs.Capped.{capped_zero}
use Rattle.order.proofs.Groups.{no_break}
use Rattle.effects.specs.declared.run.Run.{Run}
use Rattle.effects.specs.Run.{plan, bits}
use Rattle.groups.specs.Run.{Begins}
use Rattle.freely.proofs.Free.{unbroken, going_on, stopping}
use Rattle.freely.proofs.Sums.{Summing, sum_start, sum_begins, sum_next, sum_some, sum_end_lem, break_counted}
use Rattle.freely.proofs.next_break.Goals as goal

-- One turn.
module _ (r : Run) {k : ℕ} (s : Summing (plan r) r.x (clause_break (bits r) r.x) (capped_break (plan r) (bits r) r.x) k 0) (h : k < r.end) where
  begins : Begins r k
  begins = sum_begins r.going (no_break (bits r) r.x) s (omega (arith, r.ends))

pub loop-k-init : goal.loop-k-init
loop-k-init c =
    let r = c.args.run.now in
    let start = rw (break_counted r.going, ← r.begins) at (sum_start r.going (clause_break (bits r) r.x)) in
    (omega (arith, start.along.last, r.ends), start)

pub passed-requires : goal.passed-requires
passed-requires c = begins c.args.run.now c.loop-k.invariant.1 c.loop-k-test.true

pub returns-in_default-clause-inside : goal.returns-in_default-clause-inside
returns-in_default-clause-inside c =
    let r = c.args.run.now in
    let g = begins r c.loop-k.invariant.1 c.loop-k-test.true in
    (omega (arith, g.first, r.begins), c.loop-k-test.true)

pub returns-in_default-clause-found : goal.returns-in_default-clause-found
returns-in_default-clause-found c =
    let r = c.args.run.now in
    sym (ap not (sum_some r.going c.loop-k.invariant.1 (omega (arith, c.loop-k-test.true, r.ends)) (stopping _ _ c.in_default.ensures)))

pub loop-k-preserved : goal.loop-k-preserved
loop-k-preserved c =
    let r = c.args.run.now in
    let g = begins r c.loop-k.invariant.1 c.loop-k-test.true in
    let on = going_on _ c.in-Some.ensures in
    (omega (arith, on.1, g.last, r.ends), sum_next r.going (no_break (bits r) r.x) c.loop-k.invariant.1 (omega (arith, c.loop-k-test.true, r.ends)) on.1 (unbroken _ on.0) (sym capped_zero))

pub loop-k-smaller : goal.loop-k-smaller
loop-k-smaller c =
    let r = c.args.run.now in
    let g = begins r c.loop-k.invariant.1 c.loop-k-test.true in
    let on = going_on _ c.in-Some.ensures in
    omega (arith, on.1, g.some, g.last, r.ends)

pub returns-clause-found : goal.returns-clause-found
returns-clause-found c =
    let r = c.args.run.now in
    let none = sum_end_lem r.going (no_break (bits r) r.x) c.loop-k.invariant.1 (omega (arith, c.loop-k-test.false, r.ends)) in
    sym (ap not (eq-eqb _ 0 (sym none ∙ capped_zero)))
