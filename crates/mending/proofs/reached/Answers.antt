-- `reached` meets its contract, by cases on the bound.
-- Assumes nothing.
use borrow.Author.Rules.{rules}
use borrow.Author.Tests.{tests}
use mathlib.Core.Path.{◌≡◌}
use Rattle.plpb.specs.Lists.{◌and◌}
use Rattle.counting.specs.Bound.{bound_of}
use Rattle.counting.proofs.Bounds.{by_bound}
use Rattle.order.specs.Breaks.{reaches}
use Rattle.mending.proofs.reached.Goals as goal

pub returns : goal.returns
unfolding reaches ◌and◌
returns c =
    by_bound (λ b. c.is_some_and.result ≡ reaches c.args.m c.args.w (bound_of b)) c.args.bound c.is_some_and.ensures
    (λ e. e) (λ k h. search (rules, tests))
