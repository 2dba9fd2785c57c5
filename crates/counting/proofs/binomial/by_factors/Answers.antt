-- `by_factors` meets its contract: a row is symmetric.
-- Assumes nothing.
use native.Mathlib.Omega.{arith}
use mathlib.Core.Path.{◌∙◌, ap}
use Rattle.plpb.specs.Count.{capped}
use Rattle.plpb.specs.Equations.{binom}
use Rattle.plpb.specs.Factors.{passes_at}
use Rattle.plpb.proofs.Triangle.{nearer_end}
use Rattle.plpb.proofs.Factors.{factors_inside}
use Rattle.counting.proofs.binomial.by_factors.Goals as goal

pub lower_half-requires : goal.lower_half-requires
lower_half-requires c = (c.requires.0, omega (arith, c.nearer.ensures, c.requires.2))

pub returns : goal.returns
returns c =
    let given = c.requires in
    let m = c.args.m in
    let k = c.args.k in
    let near = c.nearer.ensures in record { count_value = c.lower_half.ensures.count_value ∙ ap (λ x. capped (binom m x)) near ∙ ap capped (nearer_end m k given.2); factors_value = c.lower_half.ensures.factors_value ∙ ap (passes_at m 0) near ∙ factors_inside m k given.1 given.2 }
