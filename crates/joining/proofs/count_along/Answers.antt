-- `count_along` meets its contract.
-- Assumes nothing.
use Prim.Native.Nat.{◌+◌}
use native.Mathlib.Omega.{arith}
use mathlib.Core.Path.{refl, sym, ap, ◌∙◌}
use mathlib.Core.Bool.{cond}
use Rattle.effects.proofs.Kept.{rule_countable, told_state}
use Rattle.groups.proofs.Stretch.{stretch_few}
use Rattle.groups.proofs.Runs.{of_run, group_stretch}
use Rattle.rules.specs.Places.{standing_in}
use Rattle.joining.specs.Merging.{Merging}
use Rattle.joining.proofs.Merging.{placed_readable, placed_end, merging_below, named_low, named_here, standing_out}
use Rattle.joining.proofs.Pairs.{seen_unnamed, counting_start, counting_merging, counting_next, counting_end}
use Rattle.joining.proofs.count_along.Goals as goal

pub rules_of-r-items-requires : goal.rules_of-r-items-requires
rules_of-r-items-requires c = placed_readable c.requires

pub loop-r-init : goal.loop-r-init
loop-r-init c =
    let e = rw (sym c.into_iter-r-iterator.ensures.into_iter_gives) at c.rules_of-r-items.ensures in
    (counting_start c.requires c.args.counted e.0 refl refl, placed_end c.requires e.1)

pub state_at-requires : goal.state_at-requires
state_at-requires c =
    let o = c.loop-r.invariant in
    let n = c.in-Some.ensures.steps.1 in
    let m : Merging c.args.group.now c.in-Some.r c.loop-r.i = rw n.1 (counting_merging c.requires c.args.counted o.0 (omega (arith, n.0, o.1))) in
    of_run c.args.group.now m.low (named_low m (sym c.is_at.ensures ∙ c.if-is_at.true))

pub overflow_add-i : goal.overflow_add-i
overflow_add-i c =
    let o = c.loop-r.invariant in
    let n = c.in-Some.ensures.steps.1 in
    let m : Merging c.args.group.now c.in-Some.r c.loop-r.i = rw n.1 (counting_merging c.requires c.args.counted o.0 (omega (arith, n.0, o.1))) in
    omega (arith, named_low m (sym c.is_at.ensures ∙ c.if-is_at.true), stretch_few (group_stretch c.args.group.now.run.now c.args.group.now.whole))

pub loop-r-preserved-then-is_at : goal.loop-r-preserved-then-is_at
loop-r-preserved-then-is_at c =
    let o = c.loop-r.invariant in
    let n = c.in-Some.ensures.steps.1 in
    let m : Merging c.args.group.now c.in-Some.r c.loop-r.i = rw n.1 (counting_merging c.requires c.args.counted o.0 (omega (arith, n.0, o.1))) in
    let named = sym c.is_at.ensures ∙ c.if-is_at.true in
    let s = rw (named_here m named) at c.state_at.ensures in
    (rw n.2 (counting_next c.requires c.args.counted o.0 (omega (arith, n.0, o.1)) (rw n.1 at s) c.seen.ensures c.with-pair.ensures (rw n.1 at (sym (ap (λ b. cond b (c.loop-r.i + 1) c.loop-r.i) named)))), c.in-Some.ensures.steps.0 ∙ o.1)

pub told-requires : goal.told-requires
told-requires c =
    let o = c.loop-r.invariant in
    let n = c.in-Some.ensures.steps.1 in
    let m : Merging c.args.group.now c.in-Some.r c.loop-r.i = rw n.1 (counting_merging c.requires c.args.counted o.0 (omega (arith, n.0, o.1))) in
    let k = c.args.group.now.run.now.going.kept in
    (rule_countable k (merging_below m), k.sized.room)

pub narrowed-pair-requires : goal.narrowed-pair-requires
narrowed-pair-requires c =
    let o = c.loop-r.invariant in
    let n = c.in-Some.ensures.steps.1 in
    let m : Merging c.args.group.now c.in-Some.r c.loop-r.i = rw n.1 (counting_merging c.requires c.args.counted o.0 (omega (arith, n.0, o.1))) in
    let k = c.args.group.now.run.now.going.kept in
    let s = told_state k (merging_below m) (sym (standing_out _ c.args.group.now.run.now.x _ (sym c.is_at.ensures ∙ c.if-is_at.false))) c.told.ensures in
    (s.balanced, ap standing_in c.told.ensures.stands)

pub loop-r-preserved : goal.loop-r-preserved
loop-r-preserved c =
    let o = c.loop-r.invariant in
    let n = c.in-Some.ensures.steps.1 in
    let m : Merging c.args.group.now c.in-Some.r c.loop-r.i = rw n.1 (counting_merging c.requires c.args.counted o.0 (omega (arith, n.0, o.1))) in
    let k = c.args.group.now.run.now.going.kept in
    let none = sym c.is_at.ensures ∙ c.if-is_at.false in
    let s = told_state k (merging_below m) (sym (standing_out _ c.args.group.now.run.now.x _ none)) c.told.ensures in
    (rw n.2 (counting_next c.requires c.args.counted o.0 (omega (arith, n.0, o.1)) (rw n.1 at s) (seen_unnamed c.args.counted s.balanced (ap standing_in c.told.ensures.stands)) c.narrowed-pair.ensures (rw n.1 at (sym (ap (λ b. cond b (c.loop-r.i + 1) c.loop-r.i) none)))), c.in-Some.ensures.steps.0 ∙ o.1)

pub returns : goal.returns
returns c =
    let o = c.loop-r.invariant in
    counting_end c.requires c.args.counted o.0 (omega (arith, c.in-None.ensures.steps, o.1))
