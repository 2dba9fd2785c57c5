-- `constraints::put_constraint` meets its contract: the terms of the rule, the one more, the end.
-- Assumes nothing.
use mathlib.Core.Path.{sym}
use Rattle.constraints.specs.Sides.{turns}
use Rattle.constraints.proofs.Sides.{sided_bytes, turned_held}
use Rattle.spelling.proofs.Puts.{puts_then, puts_same, room_same, room_first, room_after}
use Rattle.constraints.proofs.put_constraint.Goals as goal

pub put_terms-a-requires : goal.put_terms-a-requires
put_terms-a-requires c = room_first _ _ _ (room_same _ (sided_bytes _ _ _ _ _) c.requires.room)

pub put_term-b-requires : goal.put_term-b-requires
put_term-b-requires c =
    let weight = turned_held (turns c.args.side) (record { sfits = c.turned.type_inv }) c.ranges.weight c.turned.ensures in
    rw weight (room_first _ _ _ (room_after c.put_terms-a.ensures _ (room_same _ (sided_bytes _ _ _ _ _) c.requires.room)))

pub put_end-requires : goal.put_end-requires
put_end-requires c =
    let weight = turned_held (turns c.args.side) (record { sfits = c.turned.type_inv }) c.ranges.weight c.turned.ensures in
    let bound = turned_held (turns c.args.side) (record { sfits = c.turned-2.type_inv }) c.ranges.bound c.turned-2.ensures in
    rw bound
    (room_after (rw weight at c.put_term-b.ensures) _ (room_after c.put_terms-a.ensures _ (room_same _ (sided_bytes _ _ _ _ _) c.requires.room)))

pub returns : goal.returns
returns c =
    let weight = turned_held (turns c.args.side) (record { sfits = c.turned.type_inv }) c.ranges.weight c.turned.ensures in
    let bound = turned_held (turns c.args.side) (record { sfits = c.turned-2.type_inv }) c.ranges.bound c.turned-2.ensures in
    puts_same (sym (sided_bytes _ _ _ _ _))
    (puts_then c.put_terms-a.ensures (puts_then (rw weight at c.put_term-b.ensures) (rw bound at c.put_end.ensures)))
