-- `division::Stakes::parts` meets its contract: the steps of the definition.
-- Assumes nothing.
use native.Mathlib.Omega.{arith}
use Rattle.division.proofs.Laws.{fits_in, tops_in}
use Rattle.division.specs.Split.{lengths}
use Rattle.division.specs.Eight.{lawful_parts}
use Rattle.division.proofs.Stakes.parts.Goals as goal

pub total-u-requires : goal.total-u-requires
total-u-requires c =
    omega (arith, fits_in c.args.numbers c.total-t.result c.args.self.stakes c.whole_parts-w.result c.total-t.ensures c.requires.0 c.whole_parts-w.ensures)

pub overflow_sub-numbers : goal.overflow_sub-numbers
overflow_sub-numbers c =
    omega (arith, fits_in c.args.numbers c.total-t.result c.args.self.stakes c.whole_parts-w.result c.total-t.ensures c.requires.0 c.whole_parts-w.ensures, c.total-u.ensures)

pub placed-requires : goal.placed-requires
placed-requires c =
    let h = fits_in c.args.numbers c.total-t.result c.args.self.stakes c.whole_parts-w.result c.total-t.ensures c.requires.0 c.whole_parts-w.ensures in
    omega (arith, tops_in c.args.numbers c.total-u.result c.whole_parts-w.result c.topped-l.result c.total-u.ensures h c.topped-l.ensures)

pub returns : goal.returns
unfolding lawful_parts lengths
returns c = rw (c.placed.ensures, c.topped-l.ensures, c.total-u.ensures, c.whole_parts-w.ensures, c.total-t.ensures)
