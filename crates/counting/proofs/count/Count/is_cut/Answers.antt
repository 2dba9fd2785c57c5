-- `Count::is_cut` meets its contract: what is above the cap was cut.
-- Assumes nothing.
use Rattle.counting.proofs.Marks.{cut_above}
use Rattle.counting.proofs.count.Count.is_cut.Goals as goal

pub returns : goal.returns
returns c = cut_above c.args.self.n
