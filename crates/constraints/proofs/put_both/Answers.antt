-- `constraints::put_both` meets its contract: its three lines.
-- Assumes nothing.
use mathlib.Core.Path.{sym}
use Rattle.constraints.proofs.Sides.{both_bytes}
use Rattle.spelling.proofs.Puts.{puts_then, puts_same, room_same, room_first, room_after}
use Rattle.constraints.proofs.put_both.Goals as goal

pub put_pair-a-requires : goal.put_pair-a-requires
put_pair-a-requires c = room_first _ _ _ (room_same _ (both_bytes c.args.k) c.requires.1)

pub put_pair-b-requires : goal.put_pair-b-requires
put_pair-b-requires c = room_first _ _ _ (room_after c.put_pair-a.ensures _ (room_same _ (both_bytes c.args.k) c.requires.1))

pub put_triple-requires : goal.put_triple-requires
put_triple-requires c = room_after c.put_pair-b.ensures _ (room_after c.put_pair-a.ensures _ (room_same _ (both_bytes c.args.k) c.requires.1))

pub returns : goal.returns
returns c = puts_same (sym (both_bytes c.args.k)) (puts_then c.put_pair-a.ensures (puts_then c.put_pair-b.ensures c.put_triple.ensures))
