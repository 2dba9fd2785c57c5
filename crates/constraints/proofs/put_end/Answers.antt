-- `constraints::put_end` meets its contract: relation, number, `;`, one behind the other.
-- Assumes nothing.
use mathlib.Core.Path.{◌≡◌, refl, sym}
use mathlib.Core.List.{[], ◌∷◌}
use mir.Facts.{to_z-of_z}
use Rattle.texts.specs.Texts.{text}
use Rattle.constraints.proofs.Bytes.{end_bytes_lem}
use Rattle.spelling.proofs.Puts.{puts_then, puts_same, room_same, room_first, room_after}
use Rattle.constraints.proofs.put_end.Goals as goal

semicolon : 32 ∷ 59 ∷ 10 ∷ [] ≡ text " ;\n"
unfolding text
semicolon = refl

pub put_relation-a-requires : goal.put_relation-a-requires
put_relation-a-requires c = room_first _ _ _ (room_same _ (end_bytes_lem _ _) c.requires)

pub put_signed-b-requires : goal.put_signed-b-requires
put_signed-b-requires c =
    rw (to_z-of_z c.ranges.bound) (room_first _ _ _ (room_after c.put_relation-a.ensures _ (room_same _ (end_bytes_lem _ _) c.requires)))

pub put_bytes-requires : goal.put_bytes-requires
put_bytes-requires c =
    room_same _ (sym semicolon)
    (room_after (rw (to_z-of_z c.ranges.bound) at c.put_signed-b.ensures) _
    (room_after c.put_relation-a.ensures _ (room_same _ (end_bytes_lem _ _) c.requires)))

pub returns : goal.returns
returns c =
    puts_same (sym (end_bytes_lem _ _))
    (puts_then c.put_relation-a.ensures (puts_then (rw (to_z-of_z c.ranges.bound) at c.put_signed-b.ensures) (puts_same semicolon c.put_bytes.ensures)))
