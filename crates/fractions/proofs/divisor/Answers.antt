-- The goals that the search leaves.
use native.Mathlib.Omega.{arith}
use mathlib.Core.Path.{sym, ◌∙◌}
use Rattle.fractions.proofs.Euclid.{gcd_step, gcd_done}
use Rattle.fractions.proofs.divisor.Goals as goal

pub loop-y-preserved : goal.loop-y-preserved
loop-y-preserved c = sym (gcd_step _ _ (omega arith)) ∙ c.loop-y.invariant

pub returns : goal.returns
returns c = sym (gcd_done _ _ (omega arith)) ∙ c.loop-y.invariant
