-- `clause::all_meet` meets its contract, by whether a bound is left.
-- Assumes nothing.
use Rattle.std.proofs.Common.{rules}
use mathlib.Core.Path.{◌≡◌}
use Rattle.counting.proofs.Bounds.{by_bound}
use Rattle.fates.specs.Rules.{unbounded}
use Rattle.fates.proofs.clause.all_meet.Goals as goal

pub returns : goal.returns
unfolding unbounded
returns c = by_bound (λ b. c.is_some_and.result ≡ unbounded b) _ c.is_some_and.ensures (λ e. search rules) (λ k h. search rules)
