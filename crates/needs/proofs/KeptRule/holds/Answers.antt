-- `holds` meets its contract.
-- Assumes nothing.
use Rattle.format.proofs.Bools.{both}
use Rattle.needs.specs.Rules.{holds_in}
use Rattle.needs.proofs.KeptRule.holds.Goals as goal

pub returns : goal.returns
unfolding holds_in
returns c = both _ _
