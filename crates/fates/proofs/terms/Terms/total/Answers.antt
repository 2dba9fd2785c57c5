-- The goals that the search leaves.
use native.Mathlib.Omega.{arith}
use mathlib.Core.Path.{ap, ◌∙◌}
use lib.IntN.{ℤ, ◌+ℤ◌}
use mir.Facts.{to_z-of_z}
use mir.Syntax.{w32}
use mir.Val.{to_z}
use Rattle.fates.proofs.Parts.{summing_all, summing_more, sum_room, small_at}
use Rattle.fates.proofs.terms.Terms.total.Goals as goal

pub code-code-requires : goal.code-code-requires
code-code-requires g c =
    let gives = c.requires.gives in
    let here = small_at _ _ _ (omega (arith, c.loop-i-test.true)) (c.loop-i.invariant gives.0 gives.1).small in
    omega (arith, c.read_size.ensures, here.variable)

pub plus-sum-requires : goal.plus-sum-requires
plus-sum-requires g c =
    let gives = c.requires.gives in
    rw (to_z-of_z (record { sfits = c.part.type_inv }))
    (sum_room (omega (arith, c.loop-i-test.true)) (c.loop-i.invariant gives.0 gives.1) c.read_size.ensures c.code-code.ensures
    (to_z-of_z {w = w32} (record { sfits = c.read_i32.type_inv }) ∙ c.read_i32.ensures) (gives.1 _ _ _ c.part.ensures) c.args.self.now.fits.few)

pub loop-i-preserved : goal.loop-i-preserved
loop-i-preserved g c =
    λ p h.
    summing_more (omega (arith, c.loop-i-test.true)) (c.loop-i.invariant p h) c.read_size.ensures c.code-code.ensures
    (to_z-of_z {w = w32} (record { sfits = c.read_i32.type_inv }) ∙ c.read_i32.ensures) (h _ _ _ c.part.ensures) (omega arith) (omega arith)
    (to_z-of_z {w = w32} (record { sfits = c.plus-sum.type_inv }) ∙ c.plus-sum.ensures ∙ ap (λ (z : ℤ). to_z w32 c.loop-i.sum-bits +ℤ z) (to_z-of_z {w = w32} (record { sfits = c.part.type_inv })))

pub returns : goal.returns
returns g c =
    λ p h.
    let run = c.loop-i.invariant p h in
    (summing_all (omega (arith, c.loop-i-test.false)) run, omega (arith, run.size, c.args.self.now.fits.few))
