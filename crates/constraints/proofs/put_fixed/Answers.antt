-- `constraints::put_fixed` meets its contract: its term and its end.
-- Assumes nothing.
use mathlib.Core.Path.{sym}
use Rattle.constraints.proofs.Sides.{fixed_bytes}
use Rattle.spelling.proofs.Puts.{puts_then, puts_same, room_same, room_first, room_after}
use Rattle.constraints.proofs.put_fixed.Goals as goal

pub put_term-a-requires : goal.put_term-a-requires
put_term-a-requires c = room_first _ _ _ (room_same _ (fixed_bytes _) c.requires)

pub put_end-requires : goal.put_end-requires
put_end-requires c = room_after c.put_term-a.ensures _ (room_same _ (fixed_bytes _) c.requires)

pub returns : goal.returns
returns c = puts_same (sym (fixed_bytes _)) (puts_then c.put_term-a.ensures c.put_end.ensures)
