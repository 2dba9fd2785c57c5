-- `reduce` meets its contract: both are divided by their greatest common divisor, which is not 0.
-- Assumes nothing.
use Prim.Native.Nat.{◌<◌, ◌/◌}
use mathlib.Core.Path.{sym, ap, subst}
use Rattle.fractions.specs.Fractions.{reduced}
use Rattle.fractions.proofs.Euclid.{gcd_positive}
use Rattle.fractions.proofs.reduce.Goals as goal

positive : (c : goal.After-divisor-d) → 0 < c.divisor-d.result
positive c = subst (λ d. 0 < d) (sym c.divisor-d.ensures) (gcd_positive _ _ c.requires)

pub returns : goal.returns
unfolding reduced
returns c = ap (λ d. record { top = c.args.a / d; bottom = c.args.b / d }) c.divisor-d.ensures

pub nonzero_div-result : goal.nonzero_div-result
nonzero_div-result = positive

pub nonzero_div-result-2 : goal.nonzero_div-result-2
nonzero_div-result-2 = positive
