-- `all_zero` meets its contract: the first word that is not 0 decides.
-- Assumes nothing.
use Rattle.std.proofs.Common.{rules}
use Rattle.plpb.specs.Lists.{◌and◌}
use Rattle.trials.specs.Trials.{all_zero}
use Rattle.trials.proofs.all_zero.Goals as goal

pub returns-then-g-eq0-4 : goal.returns-then-g-eq0-4
unfolding all_zero ◌and◌
returns-then-g-eq0-4 c = search rules

pub returns-else-g-eq0-4 : goal.returns-else-g-eq0-4
unfolding all_zero ◌and◌
returns-else-g-eq0-4 c = search rules
