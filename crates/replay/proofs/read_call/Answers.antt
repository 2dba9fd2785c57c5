-- `read_call` meets its contract: the kind says which call it is. Assumes nothing.
use mathlib.Core.Path.{sym, ap, ◌∙◌}
use Rattle.plpb.specs.Book.{flip_call, counts_call}
use Rattle.replay.proofs.Made.{is_flip, is_counts}
use Rattle.replay.proofs.read_call.Goals as goal

pub returns-then-bytes-eq0 : goal.returns-then-bytes-eq0
returns-then-bytes-eq0 c = ap flip_call c.read_u32-x.ensures ∙ sym (is_flip _ _ c.if-bytes-eq0.true)

pub returns-else-bytes-eq0 : goal.returns-else-bytes-eq0
returns-else-bytes-eq0 c = ap counts_call c.read_u32-x.ensures ∙ sym (is_counts _ _ c.if-bytes-eq0.false)
