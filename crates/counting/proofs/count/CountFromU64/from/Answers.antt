-- `Count::from` meets its contract: the number itself, which is read as cut above the cap.
-- Assumes nothing.
use Rattle.counting.proofs.Marks.{stands}
use Rattle.counting.proofs.count.CountFromU64.from.Goals as goal

pub returns : goal.returns
returns c = stands c.args.n
