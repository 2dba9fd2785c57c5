-- `reduce_signed` meets its contract: both are divided by the greatest common divisor of the denominator and the size.
-- Assumes nothing.
use Prim.Native.Nat.{◌<◌, ◌/◌, ◌^◌}
use native.Mathlib.Omega.{arith}
use mathlib.Core.Path.{◌≡◌, sym, ap, ap₂, ◌∙◌, subst}
use lib.IntN.{nat_abs}
use mir.Facts.{to_z-of_z}
use Rattle.fractions.specs.Fractions.{gcd, reduced_z}
use Rattle.fractions.proofs.Euclid.{gcd_positive, gcd_small}
use Rattle.fractions.proofs.Signs.{divisor_fits, quotient_held, quotient_is}
use Rattle.fractions.proofs.reduce_signed.Goals as goal

module _ (c : goal.After-divisor-d) where
  is : c.divisor-d.result ≡ gcd (nat_abs c.args.a) c.args.b
  is = c.divisor-d.ensures ∙ ap (λ n. gcd n c.args.b) (c.unsigned_abs.ensures.value ∙ ap nat_abs (to_z-of_z c.ranges.a))

  small : gcd (nat_abs c.args.a) c.args.b < 2 ^ 63
  small = omega (arith, c.requires, gcd_small (nat_abs c.args.a) c.args.b c.requires.0)

  positive : 0 < c.divisor-d.result
  positive = subst (λ d. 0 < d) (sym is) (gcd_positive _ _ c.requires.0)

pub returns : goal.returns
unfolding reduced_z
returns c =
    ap₂ (λ t b. record { top = t; bottom = b })
    (quotient_is c.args.a c.ranges.a (is c) (small c))
    (ap (λ d. c.args.b / d) (is c))

pub overflow_cast-result : goal.overflow_cast-result
overflow_cast-result c = divisor_fits c.args.a c.ranges.a (is c) (small c)

pub nonzero_div-result : goal.nonzero_div-result
nonzero_div-result c = (positive c, quotient_held c.args.a c.ranges.a (is c) (small c))

pub nonzero_div-result-2 : goal.nonzero_div-result-2
nonzero_div-result-2 = positive
