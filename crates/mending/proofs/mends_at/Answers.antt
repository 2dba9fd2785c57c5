-- `mends_at` meets its contract: the state is that of the rule.
-- Assumes nothing.
use mathlib.Core.Path.{◌∙◌, ap}
use lib.Dec.{ltb}
use Rattle.rules.proofs.States.{shares_rule}
use Rattle.mending.specs.Mends.{mends_part}
use Rattle.mending.proofs.mends_at.Goals as goal

pub returns : goal.returns
unfolding mends_part
returns c = c.mends.ensures ∙ ap (λ t. ltb 0 t.f) (shares_rule c.state_at.ensures)
