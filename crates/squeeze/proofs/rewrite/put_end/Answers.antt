-- `rewrite::put_end` meets its contract: the end, and zeros behind it.
-- Assumes nothing.
use mathlib.Core.Path.{refl}
use Rattle.squeeze.proofs.Wholly.{end_laid}
use Rattle.squeeze.proofs.rewrite.put_end.Goals as goal

pub returns : goal.returns
returns c = (end_laid _ _ _ c.requires c.put_head.ensures c.clear.ensures, refl)
