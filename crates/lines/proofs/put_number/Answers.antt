-- `lines::put_number` meets its contract: a number of 64 bits has 20 digits at most.
-- Assumes nothing.
use native.Mathlib.Omega.{arith}
use mathlib.Core.Path.{◌∙◌}
use Rattle.texts.proofs.Decimal.{twenty}
use Rattle.spelling.proofs.Overlay.{overlay_put}
use Rattle.lines.proofs.Items.{number_written}
use Rattle.lines.proofs.put_number.Goals as goal

pub put_decimal-last-requires : goal.put_decimal-last-requires
put_decimal-last-requires c = omega (arith, twenty c.args.n c.ranges.n.fits, c.well_formed.0.0)

pub bounds-out-last : goal.bounds-out-last
bounds-out-last c = omega (arith, twenty c.args.n c.ranges.n.fits, c.put_decimal-last.ensures.place, c.put_decimal-last.auto.out)

pub overflow_add-result : goal.overflow_add-result
overflow_add-result c = omega (arith, twenty c.args.n c.ranges.n.fits, c.put_decimal-last.ensures.place, c.well_formed.0.0)

pub returns : goal.returns
returns c =
    let few = twenty c.args.n c.ranges.n.fits in
    number_written c.args.out.now c.args.at c.args.n _ c.args.end c.ranges.n.fits c.requires
    (c.put_decimal-last.ensures.bytes ∙ overlay_put _ _ _ (omega (arith, few, c.requires))) c.put_decimal-last.ensures.place
