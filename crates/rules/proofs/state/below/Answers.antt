-- `below` meets its contract, by cases on the bound.
-- Assumes nothing.
use borrow.Author.Rules.{rules}
use mathlib.Core.Path.{◌≡◌}
use Rattle.plpb.specs.Normal.{below_size}
use Rattle.counting.specs.Bound.{bound_of}
use Rattle.counting.proofs.Bounds.{by_bound}
use Rattle.rules.proofs.state.below.Goals as goal

pub returns : goal.returns
unfolding below_size
returns c =
    by_bound (λ b. c.is_none_or.result ≡ below_size c.args.n (bound_of b)) _ c.is_none_or.ensures (λ t. search rules) (λ k h. search rules)
