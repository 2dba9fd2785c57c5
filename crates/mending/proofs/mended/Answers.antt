-- `mended` meets its contract: turned over, the state has what it mends for what it spoils.
-- Assumes nothing.
use mathlib.Core.Path.{ap, ◌∙◌}
use Rattle.plpb.specs.Count.{capped}
use Rattle.mending.proofs.Mending.{turned_spoils}
use Rattle.mending.proofs.mended.Goals as goal

pub returns : goal.returns
returns c = c.spoiled.ensures ∙ ap capped (turned_spoils c.requires c.flipped.ensures)
