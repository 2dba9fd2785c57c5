-- `divisor` meets its contract. The loop's invariant: the two numbers have the greatest common divisor of the first two.
-- Assumes nothing.
use mathlib.Core.Path.{◌≡◌}
use Rattle.fractions.specs.Fractions.{gcd}
use Rattle.fractions.proofs.divisor.Given as goal

abbrev pub invariant-loop-y : goal.invariant-loop-y
invariant-loop-y l = gcd l.x l.y ≡ gcd l.a l.b

abbrev pub decreases-loop-y : goal.decreases-loop-y
decreases-loop-y l = l.y
