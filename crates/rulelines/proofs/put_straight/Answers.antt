-- `rulelines::put_straight` meets its contract: the lower line, and the upper behind it.
-- Assumes nothing.
use mathlib.Core.Path.{sym}
use Rattle.spelling.proofs.Puts.{puts_then, puts_same, room_same, room_first, room_after}
use Rattle.rulelines.proofs.Entries.{straight_parts}
use Rattle.rulelines.proofs.put_straight.Goals as goal

pub put_bound-a-requires : goal.put_bound-a-requires
put_bound-a-requires c =
    let read = c.read_rule-rule.ensures in
    record { small = read.lower; room = room_first _ _ _ (room_same _ (straight_parts read) c.requires.room) }

pub put_bound-requires : goal.put_bound-requires
put_bound-requires c =
    let read = c.read_rule-rule.ensures in
    record { small = read.upper; room = room_after c.put_bound-a.ensures _ (room_same _ (straight_parts read) c.requires.room) }

pub returns : goal.returns
returns c = puts_same (sym (straight_parts c.read_rule-rule.ensures)) (puts_then c.put_bound-a.ensures c.put_bound.ensures)
