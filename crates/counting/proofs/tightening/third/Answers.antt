-- `third` meets its contract: the library's quotient, which rounds down.
-- Assumes nothing.
use mir.Syntax.{w64}
use mathlib.Core.Path.{◌∙◌, ap}
use mir.Facts.{to_z-of_z}
use Rattle.counting.proofs.Signed.{thirds, quotient_by_3}
use Rattle.counting.proofs.tightening.third.Goals as goal

pub returns : goal.returns
returns c =
    to_z-of_z {w = w64} (record { sfits = c.div_euclid.type_inv })
    ∙ c.div_euclid.ensures
    ∙ ap quotient_by_3 (to_z-of_z c.ranges.a)
    ∙ thirds c.args.a
