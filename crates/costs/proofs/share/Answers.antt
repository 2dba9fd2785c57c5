-- `share` meets its contract: the coefficient, chosen by the assignment's byte.
-- Assumes nothing.
use mir.Syntax.{w64}
use mathlib.Core.Bool.{cond}
use mathlib.Core.Path.{◌∙◌, ap}
use lib.Dec.{eqb}
use lib.IntN.{ℤ, pos}
use lib.ListN.{get_or}
use mir.Facts.{to_z-of_z}
use Rattle.costs.specs.Sums.{share_at}
use Rattle.costs.proofs.share.Goals as goal

pub returns : goal.returns
unfolding share_at
returns c =
    to_z-of_z {w = w64} (record { sfits = c.chosen.type_inv })
    ∙ c.chosen.ensures
    ∙ ap (λ (w : ℤ). cond (eqb (get_or c.args.assignment.now c.args.i 0) 1) w (pos 0))
    (to_z-of_z {w = w64} (record { sfits = c.coefficient.type_inv }) ∙ c.coefficient.ensures)
