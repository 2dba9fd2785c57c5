-- `mends` meets its contract: equation (11) is above 0 where the size is reached.
-- Assumes nothing.
use mathlib.Core.Path.{refl, ◌∙◌}
use Rattle.order.proofs.Groups.{grows}
use Rattle.plpb.specs.Equations.{shares}
use Rattle.rules.specs.State.{shares_from}
use Rattle.rules.proofs.States.{on_in_P, off_in_N}
use Rattle.mending.proofs.Mending.{put_back}
use Rattle.mending.proofs.mends.Goals as goal

pub overflow_sub-p : goal.overflow_sub-p
overflow_sub-p c = on_in_P c.args.s c.requires _ c.in-On.is

pub overflow_sub-n : goal.overflow_sub-n
overflow_sub-n c = off_in_N c.args.s c.requires _ c.in-Off.is

pub returns-in-Out : goal.returns-in-Out
unfolding shares_from shares
returns-in-Out c = rw c.in-Out.is refl

pub returns-in-On : goal.returns-in-On
unfolding shares_from shares
returns-in-On c =
    let e = c.in-On.is in
    let back = put_back c.args.s.p _ (on_in_P c.args.s c.requires _ e) in
    rw e (rw back at (c.reached.ensures ∙ grows _ _ _))

pub returns-in-Off : goal.returns-in-Off
unfolding shares_from shares
returns-in-Off c =
    let e = c.in-Off.is in
    let back = put_back c.args.s.n _ (off_in_N c.args.s c.requires _ e) in
    rw e (rw back at (c.reached-in-Off.ensures ∙ grows _ _ _))
