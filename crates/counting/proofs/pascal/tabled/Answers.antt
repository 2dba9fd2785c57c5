-- `tabled` meets its contract: the entries are the triangle that Pascal's rule makes, as the checker computes, and each of these is the binomial.
-- Assumes nothing.
use mathlib.Core.Path.{◌≡◌, refl, ◌∙◌, ap}
use lib.ListN.{get_or}
use Rattle.plpb.specs.Factors.{row_below, rows_from, triangle, place_of}
use Rattle.plpb.proofs.Triangle.{triangle_entry}
use Rattle.counting.specs.declared.pascal.TheConstants.{TRIANGLE}
use Rattle.counting.proofs.pascal.tabled.Goals as goal

by_the_rule : TRIANGLE ≡ triangle
unfolding triangle rows_from row_below
by_the_rule = refl

pub returns : goal.returns
returns c =
    ap (λ xs. get_or xs (place_of c.args.m c.args.k) 0) by_the_rule
    ∙ triangle_entry c.args.m c.args.k c.requires.0 c.requires.1
