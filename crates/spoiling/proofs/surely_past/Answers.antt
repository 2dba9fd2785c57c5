-- `surely_past` meets its contract: equation (10) in each of its cases.
-- Assumes nothing.
use native.Mathlib.Omega.{arith}
use Rattle.plpb.specs.Equations.{shares}
use Rattle.rules.specs.State.{shares_from}
use Rattle.rules.proofs.States.{on_in_P, off_in_N}
use Rattle.spoiling.proofs.surely_past.Goals as goal

pub over_surely_past-requires : goal.over_surely_past-requires
over_surely_past-requires c =
    omega (arith, c.requires.small, on_in_P c.args.s c.requires _ c.in-On.is)

pub over_surely_past-requires-in-Off : goal.over_surely_past-requires-in-Off
over_surely_past-requires-in-Off c =
    omega (arith, c.requires.small, off_in_N c.args.s c.requires _ c.in-Off.is)

pub returns-in-On : goal.returns-in-On
unfolding shares_from shares
returns-in-On c = rw c.in-On.is c.over_surely_past.ensures

pub returns-in-Off : goal.returns-in-Off
unfolding shares_from shares
returns-in-Off c = rw c.in-Off.is c.over_surely_past-in-Off.ensures
