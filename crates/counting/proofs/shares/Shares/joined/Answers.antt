-- `Shares::joined` meets its contract: capping at each step gives the capped number of the whole.
-- Assumes nothing.
use Rattle.counting.specs.Shares.{capped_shares, joined_shares}
use Rattle.counting.proofs.Joining.{same_shares, joined_one}
use Rattle.counting.proofs.shares.Shares.joined.Goals as goal

pub returns : goal.returns
unfolding capped_shares joined_shares
returns c =
    same_shares
    (joined_one _ _ _ _ _ _ _ _
    c.false_after.ensures
    c.mul.ensures
    c.mul-2.ensures
    c.add.ensures)
    (joined_one _ _ _ _ _ _ _ _
    c.false_before.ensures
    c.mul-3.ensures
    c.mul-4.ensures
    c.add-2.ensures)
    c.mul-5.ensures
