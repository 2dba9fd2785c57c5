-- `over_difference` meets its contract, by cases on the bound.
-- Assumes nothing.
use borrow.Author.Rules.{rules}
use Prim.Native.Nat.{◌+◌, ◌-◌}
use mathlib.Core.Path.{◌≡◌, sym}
use Rattle.plpb.specs.Count.{capped}
use Rattle.plpb.specs.Equations.{over}
use Rattle.plpb.proofs.Capped.{capped_zero}
use Rattle.counting.specs.Bound.{bound_of}
use Rattle.counting.specs.Count.{number}
use Rattle.counting.proofs.Bounds.{by_bound}
use Rattle.counting.proofs.bound.over_difference.Goals as goal

pub returns : goal.returns
unfolding over
returns c =
    by_bound (λ b. number c.map_or.result ≡ capped (over (c.args.m + c.args.w) (bound_of b) - over c.args.m (bound_of b))) _ c.map_or.ensures
    (λ e. rw e (sym capped_zero)) (λ k h. search rules)
