-- The goals that the search leaves.
use mathlib.Core.Path.{◌∙◌}
use mir.Facts.{to_z-of_z}
use mir.Syntax.{w32}
use Rattle.extremes.proofs.Summing.{summing_none, summing_all, sum_small, summing_more, part_read}
use Rattle.extremes.proofs.sum.Sum.total.Goals as goal

pub loop-i-init : goal.loop-i-init
loop-i-init g c = λ b h. summing_none _ _ _ _

pub plus-sum-requires : goal.plus-sum-requires
plus-sum-requires g c =
    let fits = c.args.self.now.fits in
    let gives = c.requires.gives in
    sum_small _ _ _ _ fits.small c.loop-i-test.true (c.loop-i.invariant gives.0 gives.1)
    (part_read gives.0 (record { sfits = c.to_signed-weight.type_inv }) c.to_signed-weight.ensures c.word.ensures (record { sfits = c.part.type_inv })
    (gives.1 _ _ c.part.ensures))
    fits.few

pub loop-i-preserved : goal.loop-i-preserved
loop-i-preserved g c =
    λ b h.
    summing_more b _ _ _ c.args.self.now.fits.small c.loop-i-test.true (c.loop-i.invariant b h)
    (part_read b (record { sfits = c.to_signed-weight.type_inv }) c.to_signed-weight.ensures c.word.ensures (record { sfits = c.part.type_inv }) (h _ _ c.part.ensures))
    (to_z-of_z {w = w32} (record { sfits = c.plus-sum.type_inv }) ∙ c.plus-sum.ensures)

pub returns : goal.returns
returns g c = λ b h. summing_all b _ _ _ c.args.self.now.fits.few c.loop-i-test.false (c.loop-i.invariant b h)
