-- `linecount::bounds` meets its contract: a line for each bound that the entry has.
-- Assumes nothing.
use mathlib.Core.Path.{ap, ◌∙◌}
use mir.Val.{bool_byte}
use Rattle.linecount.proofs.Lines.{bounds_are}
use Rattle.linecount.proofs.bounds.Goals as goal

pub returns : goal.returns
returns c =
    bounds_are c.args.tables.now c.args.r _ c.read_entry-e.ensures (c.from.ensures ∙ ap bool_byte c.is_some.ensures) (c.from-2.ensures ∙ ap bool_byte c.is_some-2.ensures)
