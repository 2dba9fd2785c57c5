-- `names` meets its contract: the entry's terms name x where the search finds a place.
-- Assumes nothing.
use mathlib.Core.Path.{◌∙◌}
use Rattle.rules.proofs.States.{entry_named}
use Rattle.rules.proofs.state.names.Goals as goal

pub returns : goal.returns
returns c = c.is_some.ensures ∙ entry_named _ _ c.read_entry.ensures c.find.ensures.named
