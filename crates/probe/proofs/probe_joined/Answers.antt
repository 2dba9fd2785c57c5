-- `probe_joined` meets its contract: both are lifted, joined and laid flat again.
-- Assumes nothing.
use mathlib.Core.Path.{◌∙◌}
use Rattle.probe.proofs.Answering.{shared}
use Rattle.probe.proofs.probe_joined.Goals as goal

pub returns : goal.returns
returns c = rw (← c.from.ensures, ← c.from-2.ensures) (c.from-3.ensures ∙ shared _ c.joined.ensures)
