-- `lbs_bound` meets its contract: l(O) + 2v fits 64 bits, and `third` rounds it down.
-- Assumes nothing.
use mir.Syntax.{w64}
use mathlib.Core.Path.{◌∙◌, ap}
use mir.Facts.{to_z-of_z}
use Rattle.plpb.specs.Search.{lbs_bound, third}
use Rattle.counting.proofs.Signed.{sum_is, sum_read_fits}
use Rattle.counting.proofs.tightening.lbs_bound.Goals as goal

pub returns : goal.returns
unfolding lbs_bound
returns c =
    to_z-of_z {w = w64} (record { sfits = c.third.type_inv })
    ∙ c.third.ensures
    ∙ ap third
    (to_z-of_z (sum_read_fits _ _ c.requires.0 c.requires.1 c.ranges.least c.ranges.cost)
    ∙ sum_is _ _ c.requires.0 c.requires.1 c.ranges.least c.ranges.cost)
