-- `over_surely_past` meets its contract, by cases on the bound.
-- Assumes nothing.
use borrow.Author.Rules.{rules}
use Prim.Native.Nat.{◌+◌, ◌-◌, ◌<◌}
use mathlib.Core.Bool.{true}
use mathlib.Core.Path.{◌≡◌, sym, ◌∙◌}
use Rattle.plpb.specs.Count.{cap}
use Rattle.plpb.specs.Equations.{over}
use Rattle.plpb.proofs.Lists.{false_T}
use Rattle.counting.specs.Bound.{bound_of}
use Rattle.counting.proofs.Bounds.{by_bound}
use Rattle.counting.proofs.bound.over_surely_past.Goals as goal

pub returns : goal.returns
unfolding over
returns c =
    by_bound (λ b. c.is_some_and.result ≡ true → cap < over (c.args.m + c.args.w) (bound_of b) - over c.args.m (bound_of b)) _ c.is_some_and.ensures
    (λ e t. absurd (false_T (sym t ∙ e) tt)) (λ k h. search rules)
