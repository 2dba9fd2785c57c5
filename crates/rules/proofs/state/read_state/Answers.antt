-- `read_state` meets its contract: the entry and the sums of its terms make the state.
-- Assumes nothing.
use Rattle.rules.proofs.Summing.{summed_below}
use Rattle.rules.proofs.States.{state_read}
use Rattle.rules.proofs.state.read_state.Goals as goal

pub of-requires : goal.of-requires
of-requires c = summed_below c.scan.ensures

pub returns : goal.returns
returns c = state_read c.read_entry-e.ensures c.requires c.scan.ensures c.of.ensures
