-- The goals that the search leaves.
use Prim.Native.Nat.{◌-◌}
use native.Mathlib.Omega.{arith}
use mathlib.Core.Path.{ap, ◌∙◌}
use Rattle.plpb.specs.Plan.{value}
use Rattle.rules.specs.Sums.{held_in}
use Rattle.rules.proofs.Terms.{term_readable}
use Rattle.rules.proofs.Summing.{summed_start, summed_step, summed_end, next_fits, weight_room, weight_added}
use Rattle.rules.proofs.entry.Entry.scan.Goals as goal

pub value_of-value-requires : goal.value_of-value-requires
value_of-value-requires c =
    let now = c.loop-k in
    let readable = term_readable _ _ _ _ c.requires (now.k - 1) (omega (arith, c.loop-k-test.true, now.auto.k)) in
    rw c.word.ensures (readable.low, readable.high)

pub with-running-requires : goal.with-running-requires
with-running-requires c =
    let now = c.loop-k in
    weight_room _ _ now.running c.word-in-loop-k.ensures (next_fits _ _ _ _ c.requires _ now.k (held_in now.running) c.loop-k-test.true now.auto.k now.invariant.0)

pub loop-k-preserved : goal.loop-k-preserved
loop-k-preserved c =
    let now = c.loop-k in
    let room = next_fits _ _ _ _ c.requires _ now.k (held_in now.running) c.loop-k-test.true now.auto.k now.invariant.0 in (
      summed_step _ _ _ _ now.k (held_in now.running) _ c.loop-k-test.true now.auto.k now.invariant.0
          (weight_added _ _ now.running c.word-in-loop-k.ensures room c.word-in-loop-k.type_inv now.invariant.1 (c.value_of-value.ensures ∙ ap (value _) c.word.ensures) c.with-running.ensures),
      omega (arith, c.with-running.ensures.weights),
    )

pub returns : goal.returns
returns c = rw c.sums.ensures (summed_end _ _ _ _ _ _ c.loop-k-test.false c.loop-k.invariant.0)

pub loop-k-init : goal.loop-k-init
loop-k-init c = (summed_start _ _ _ _, omega arith)
