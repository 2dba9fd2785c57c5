-- `bounds::at_least` meets its contract, by whether there is a bound.
-- Assumes nothing.
use Rattle.std.proofs.Common.{rules}
use mathlib.Core.Path.{◌≡◌}
use Rattle.plpb.specs.Plan.{at_least}
use Rattle.counting.specs.Bound.{bound_of}
use Rattle.counting.proofs.Bounds.{by_bound}
use Rattle.fates.proofs.bounds.at_least.Goals as goal

pub returns : goal.returns
unfolding at_least
returns c = by_bound (λ b. c.is_none_or.result ≡ at_least (bound_of b) c.args.sum) _ c.is_none_or.ensures (λ t. search rules) (λ k h. search rules)
