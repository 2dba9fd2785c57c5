-- `entries::is_no` meets its contract.
-- Assumes nothing.
use Rattle.cells.specs.Values.{same_value, gather_from, added}
use Rattle.entries.proofs.is_no.Goals as goal

pub returns : goal.returns
unfolding same_value gather_from added
returns c = c.same.ensures
