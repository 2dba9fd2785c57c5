-- `mean_cost` meets its contract: with a find there is a denominator.
-- Assumes nothing.
use native.Mathlib.Omega.{arith}
use mathlib.Core.Path.{ap, ◌∙◌}
use mir.Facts.{to_z-of_z}
use Rattle.counting.proofs.Signed.{small_fits}
use Rattle.fractions.specs.Fractions.{reduced_z}
use Rattle.figures.proofs.Means.{mean_absent, mean_there}
use Rattle.figures.proofs.Sums.mean_cost.Goals as goal

pub returns-then-self-eq0 : goal.returns-then-self-eq0
returns-then-self-eq0 c = mean_absent c.args.self c.if-self-eq0.true

pub returns : goal.returns
returns c =
    let s = c.args.self in
    let small = small_fits s.cost (omega (arith, c.requires.cost)) in
    mean_there s c.if-self-eq0.false (c.reduce_signed.ensures ∙ ap (λ z. reduced_z z s.found) (to_z-of_z small))
