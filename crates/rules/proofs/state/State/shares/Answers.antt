-- `shares` meets its contract: each of the three equations where it applies.
-- Assumes nothing.
use Rattle.counting.proofs.Joining.{case_absent, case_true, case_false}
use Rattle.rules.specs.State.{shares_from}
use Rattle.rules.proofs.States.{on_in_P, off_in_N}
use Rattle.rules.proofs.state.State.shares.Goals as goal

pub literal_true-requires : goal.literal_true-requires
literal_true-requires c =
    (c.requires.small, on_in_P c.args.self c.requires _ c.in-On.is)

pub literal_false-requires : goal.literal_false-requires
literal_false-requires c =
    (c.requires.small, off_in_N c.args.self c.requires _ c.in-Off.is)

pub returns-in-Out : goal.returns-in-Out
unfolding shares_from
returns-in-Out c = rw c.in-Out.is (case_absent _ _ _ _ (c.literal_absent.ensures.e, (c.literal_absent.ensures.f, c.literal_absent.ensures.g)))

pub returns-in-On : goal.returns-in-On
unfolding shares_from
returns-in-On c = rw c.in-On.is (case_true _ _ _ _ _ (c.literal_true.ensures.e, (c.literal_true.ensures.f, c.literal_true.ensures.g)))

pub returns-in-Off : goal.returns-in-Off
unfolding shares_from
returns-in-Off c = rw c.in-Off.is (case_false _ _ _ _ _ (c.literal_false.ensures.e, (c.literal_false.ensures.f, c.literal_false.ensures.g)))
