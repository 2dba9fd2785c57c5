-- `least_by` meets its contract, by the lock that the word tells.
-- Assumes nothing.
use mir.Syntax.{w64}
use mathlib.Core.Path.{◌∙◌, ap}
use lib.IntN.{pos}
use mir.Facts.{to_z-of_z}
use Rattle.std.specs.Prelude.{Some}
use Rattle.plpb.specs.Plan.{negative_part}
use Rattle.format.proofs.LockTold.{told}
use Rattle.costs.specs.Sums.{least_by}
use Rattle.costs.proofs.Coefficients.{negative_min}
use Rattle.costs.proofs.least_by.Goals as goal

pub returns-in-None : goal.returns-in-None
unfolding least_by
returns-in-None c =
    to_z-of_z {w = w64} (record { sfits = c.min.type_inv }) ∙ c.min.ensures.value ∙ negative_min _ ∙ ap negative_part (to_z-of_z c.ranges.weight)
    ∙ told _ _ _ c.args.lock c.lock_of.ensures c.in-None.is

pub returns-in-Some-true : goal.returns-in-Some-true
unfolding least_by
returns-in-Some-true c =
    to_z-of_z {w = w64} c.ranges.weight
    ∙ told (negative_part c.args.weight) (pos 0) c.args.weight c.args.lock c.lock_of.ensures (c.in-Some-true.is ∙ ap Some c.in-Some-true.field-0-test)

pub returns-in-Some-false : goal.returns-in-Some-false
unfolding least_by
returns-in-Some-false c =
    told (negative_part c.args.weight) (pos 0) c.args.weight c.args.lock c.lock_of.ensures (c.in-Some-false.is ∙ ap Some c.in-Some-false.field-0-test)
