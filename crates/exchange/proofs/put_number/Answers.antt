-- `exchange::put_number` meets its contract: the number's bytes are copied to their place.
-- Assumes nothing.
use mathlib.Core.Path.{◌∙◌}
use Rattle.exchange.proofs.Laws.{lent_halves}
use Rattle.exchange.proofs.put_number.Goals as goal

pub returns : goal.returns
returns c = lent_halves c.args.i c.args.v c.args.s.now (c.copy_from_slice.ensures.after ∙ c.to_le_bytes.ensures)
