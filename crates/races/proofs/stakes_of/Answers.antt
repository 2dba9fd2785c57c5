-- `races::stakes_of` meets its contract: the stakes are those of the records.
-- Assumes nothing.
use Rattle.races.specs.Races.{stakes_of}
use Rattle.races.proofs.Turns.{length_stakes}
use Rattle.races.proofs.stakes_of.Goals as goal

pub returns : goal.returns
returns c = c.stakes_by.ensures (stakes_of c.args.races.now) (length_stakes _) (λ i s p. p)
