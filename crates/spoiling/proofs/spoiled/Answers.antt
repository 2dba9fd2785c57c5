-- `spoiled` meets its contract: equation (10) in each of its cases.
-- Assumes nothing.
use native.Mathlib.Omega.{arith}
use mathlib.Core.Path.{sym}
use Rattle.plpb.specs.Equations.{shares}
use Rattle.plpb.proofs.Capped.{capped_zero}
use Rattle.rules.specs.State.{shares_from}
use Rattle.rules.proofs.States.{on_in_P, off_in_N}
use Rattle.spoiling.proofs.spoiled.Goals as goal

pub over_difference-requires : goal.over_difference-requires
over_difference-requires c =
    omega (arith, c.requires.small, on_in_P c.args.s c.requires _ c.in-On.is)

pub over_difference-requires-in-Off : goal.over_difference-requires-in-Off
over_difference-requires-in-Off c =
    omega (arith, c.requires.small, off_in_N c.args.s c.requires _ c.in-Off.is)

pub returns-in-Out : goal.returns-in-Out
unfolding shares_from shares
returns-in-Out c = rw c.in-Out.is (sym capped_zero)

pub returns-in-On : goal.returns-in-On
unfolding shares_from shares
returns-in-On c = rw c.in-On.is c.over_difference.ensures

pub returns-in-Off : goal.returns-in-Off
unfolding shares_from shares
returns-in-Off c = rw c.in-Off.is c.over_difference-in-Off.ensures
