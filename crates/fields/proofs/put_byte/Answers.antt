-- `put_byte` meets its contract.
-- Assumes nothing.
use Rattle.fields.proofs.Writing.{one_stored}
use Rattle.fields.proofs.put_byte.Goals as goal

pub returns : goal.returns
returns c = one_stored _ _ _ c.requires
