-- `with` meets its contract: cases 2 and 3 of (10) and (12).
-- Assumes nothing.
use native.Mathlib.Omega.{arith}
use mathlib.Core.Path.{◌∙◌}
use Rattle.plpb.specs.Equations.{shares}
use Rattle.plpb.proofs.Capped.{sum_of}
use Rattle.rules.specs.State.{shares_from}
use Rattle.rules.proofs.States.{on_in_P, off_in_N}
use Rattle.joining.proofs.Pairs.{joined_exact}
use Rattle.joining.proofs.Pair.with.Goals as goal

pub over_difference-requires : goal.over_difference-requires
over_difference-requires c = omega (arith, c.requires.small, on_in_P c.args.s c.requires _ c.in-On.is)

pub overflow_sub-p : goal.overflow_sub-p
overflow_sub-p c = on_in_P c.args.s c.requires _ c.in-On.is

pub over_difference-requires-in-Off : goal.over_difference-requires-in-Off
over_difference-requires-in-Off c = omega (arith, c.requires.small, off_in_N c.args.s c.requires _ c.in-Off.is)

pub overflow_sub-n : goal.overflow_sub-n
overflow_sub-n c = off_in_N c.args.s c.requires _ c.in-Off.is

pub returns-in-On : goal.returns-in-On
unfolding shares_from shares
returns-in-On c = rw c.in-On.is (joined_exact _ _ c.over_difference.ensures (c.add.ensures ∙ sum_of _ _ c.over.ensures c.over-in-On.ensures) c.joined.ensures)

pub returns-in-Off : goal.returns-in-Off
unfolding shares_from shares
returns-in-Off c =
    rw c.in-Off.is (joined_exact _ _ c.over_difference-in-Off.ensures (c.add-in-Off.ensures ∙ sum_of _ _ c.over-in-Off.ensures c.over-in-Off-2.ensures) c.joined-in-Off.ensures)
