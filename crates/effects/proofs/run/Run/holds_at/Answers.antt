-- `holds_at` meets its contract: the state says so.
-- Assumes nothing.
use mathlib.Core.Path.{◌∙◌}
use Rattle.rules.proofs.States.{holds_rule}
use Rattle.effects.proofs.run.Run.holds_at.Goals as goal

pub returns : goal.returns
returns c = c.holds.ensures ∙ holds_rule c.state_at.ensures
