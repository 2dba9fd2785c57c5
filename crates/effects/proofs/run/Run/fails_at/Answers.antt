-- `fails_at` meets its contract: the rule has a part false after the flip where it does not hold then.
-- Assumes nothing.
use mathlib.Core.Path.{ap, sym, ◌∙◌}
use mathlib.Core.Bool.{not}
use Rattle.effects.proofs.After.{fails_by_state}
use Rattle.effects.proofs.run.Run.fails_at.Goals as goal

pub returns : goal.returns
returns c = ap not c.holds.ensures ∙ sym (fails_by_state c.state_at.ensures c.flipped-after.ensures)
