-- `constraints::put_pair` meets its contract: its two terms and its end.
-- Assumes nothing.
use mathlib.Core.Path.{sym}
use Rattle.constraints.proofs.Sides.{pair_bytes}
use Rattle.spelling.proofs.Puts.{puts_then, puts_same, room_same, room_first, room_after}
use Rattle.constraints.proofs.put_pair.Goals as goal

pub put_term-a-requires : goal.put_term-a-requires
put_term-a-requires c = room_first _ _ _ (room_same _ (pair_bytes _ _ _) c.requires)

pub put_term-b-requires : goal.put_term-b-requires
put_term-b-requires c = room_first _ _ _ (room_after c.put_term-a.ensures _ (room_same _ (pair_bytes _ _ _) c.requires))

pub put_end-requires : goal.put_end-requires
put_end-requires c = room_after c.put_term-b.ensures _ (room_after c.put_term-a.ensures _ (room_same _ (pair_bytes _ _ _) c.requires))

pub returns : goal.returns
returns c = puts_same (sym (pair_bytes _ _ _)) (puts_then c.put_term-a.ensures (puts_then c.put_term-b.ensures c.put_end.ensures))
