-- `Shares::from` meets its contract: each of the three as it is handed in.
-- Assumes nothing.
use Rattle.counting.proofs.Joining.{same_shares}
use Rattle.probe.proofs.SharesFromThree.from.Goals as goal

pub returns : goal.returns
returns c = same_shares c.lifted_count.ensures c.lifted_count-2.ensures c.lifted_count-3.ensures
