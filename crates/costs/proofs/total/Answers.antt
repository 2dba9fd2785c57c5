-- The goals that the search leaves.
use mathlib.Core.Path.{ap, ◌∙◌}
use lib.IntN.{ℤ, ◌+ℤ◌}
use mir.Syntax.{w64}
use mir.Val.{SFits, to_z}
use Rattle.costs.proofs.Coefficients.{summed_more, summed_all, step_is, step_small}
use Rattle.costs.proofs.total.Goals as goal

pub loop-i-preserved : goal.loop-i-preserved
loop-i-preserved g c =
    let loop = c.loop-i in
    let i = loop.i in
    let n = c.args.n in
    let r = c.part-sum.result in
    let f : SFits w64 r = record { sfits = c.part-sum.type_inv } in
    let small = c.requires.small i r c.loop-i-test.true c.part-sum.ensures in (
      step_small n loop.sum-bits i r c.requires.few c.loop-i-test.true f small loop.invariant.0,
      λ h e.
          let is = step_is n loop.sum-bits i r c.requires.few c.loop-i-test.true f small loop.invariant.0 ∙ ap (λ (z : ℤ). to_z w64 loop.sum-bits +ℤ z) (e i r c.loop-i-test.true c.part-sum.ensures) in
          rw is (summed_more h n (to_z w64 loop.sum-bits) i c.loop-i-test.true (loop.invariant.1 h e)),
    )

pub returns : goal.returns
returns g c = λ h e. summed_all h c.args.n (to_z w64 c.loop-i.sum-bits) c.loop-i.i c.loop-i-test.false (c.loop-i.invariant.1 h e)
