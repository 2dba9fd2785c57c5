-- `entries::is_yes` meets its contract.
-- Assumes nothing.
use Rattle.cells.specs.Values.{same_value, gather_from, added}
use Rattle.entries.proofs.is_yes.Goals as goal

pub returns : goal.returns
unfolding same_value gather_from added
returns c = c.same.ensures
