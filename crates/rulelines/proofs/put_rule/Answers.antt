-- `rulelines::put_rule` meets its contract: (16) and (17), (18) and (19), (20) to (22).
-- Assumes nothing.
use mathlib.Core.Path.{sym}
use Rattle.spelling.proofs.Puts.{puts_then, puts_same, room_same, room_first, room_after}
use Rattle.rulelines.proofs.Entries.{rule_parts}
use Rattle.rulelines.proofs.put_rule.Goals as goal

pub put_atom-a-requires : goal.put_atom-a-requires
put_atom-a-requires c =
    let read = c.read_rule-rule.ensures in
    record { small = read.upper; room = room_first _ _ _ (room_same _ (rule_parts read c.args.k) c.requires.room) }

pub put_atom-b-requires : goal.put_atom-b-requires
put_atom-b-requires c =
    let read = c.read_rule-rule.ensures in
    record { small = read.lower; room = room_first _ _ _ (room_after c.put_atom-a.ensures _ (room_same _ (rule_parts read c.args.k) c.requires.room)) }

pub put_both-requires : goal.put_both-requires
put_both-requires c = (
  c.requires.rule_fits.1,
  room_after c.put_atom-b.ensures _ (room_after c.put_atom-a.ensures _ (room_same _ (rule_parts c.read_rule-rule.ensures c.args.k) c.requires.room)),
)

pub returns : goal.returns
returns c = puts_same (sym (rule_parts c.read_rule-rule.ensures c.args.k)) (puts_then c.put_atom-a.ensures (puts_then c.put_atom-b.ensures c.put_both.ensures))
