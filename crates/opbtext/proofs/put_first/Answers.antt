-- `opbtext::put_first` meets its contract: its five pieces, one behind the other.
-- Assumes nothing.
use mathlib.Core.Path.{◌≡◌, refl, sym}
use mathlib.Core.List.{[], ◌∷◌}
use Rattle.texts.specs.Texts.{text}
use Rattle.opbtext.proofs.Parts.{first_bytes}
use Rattle.spelling.proofs.Puts.{puts_then, puts_same, room_same, room_first, room_after}
use Rattle.opbtext.proofs.put_first.Goals as goal

star : 42 ∷ 32 ∷ 35 ∷ 118 ∷ 97 ∷ 114 ∷ 105 ∷ 97 ∷ 98 ∷ 108 ∷ 101 ∷ 61 ∷ 32 ∷ [] ≡ text "* #variable= "
unfolding text
star = refl

constraint : 32 ∷ 35 ∷ 99 ∷ 111 ∷ 110 ∷ 115 ∷ 116 ∷ 114 ∷ 97 ∷ 105 ∷ 110 ∷ 116 ∷ 61 ∷ 32 ∷ [] ≡ text " #constraint= "
unfolding text
constraint = refl

feed : 10 ∷ [] ≡ text "\n"
unfolding text
feed = refl

pub put_bytes-a-requires : goal.put_bytes-a-requires
put_bytes-a-requires c = room_same _ (sym star) (room_first _ _ _ (room_same _ (first_bytes _ _) c.requires))

pub put_decimal-b-requires : goal.put_decimal-b-requires
put_decimal-b-requires c = room_first _ _ _ (room_after (puts_same star c.put_bytes-a.ensures) _ (room_same _ (first_bytes _ _) c.requires))

pub put_bytes-c-requires : goal.put_bytes-c-requires
put_bytes-c-requires c =
    room_same _ (sym constraint)
    (room_first _ _ _ (room_after c.put_decimal-b.ensures _ (room_after (puts_same star c.put_bytes-a.ensures) _ (room_same _ (first_bytes _ _) c.requires))))

pub put_decimal-d-requires : goal.put_decimal-d-requires
put_decimal-d-requires c =
    room_first _ _ _
    (room_after (puts_same constraint c.put_bytes-c.ensures) _
    (room_after c.put_decimal-b.ensures _ (room_after (puts_same star c.put_bytes-a.ensures) _ (room_same _ (first_bytes _ _) c.requires))))

pub put_bytes-requires : goal.put_bytes-requires
put_bytes-requires c =
    room_same _ (sym feed)
    (room_after c.put_decimal-d.ensures _
    (room_after (puts_same constraint c.put_bytes-c.ensures) _
    (room_after c.put_decimal-b.ensures _ (room_after (puts_same star c.put_bytes-a.ensures) _ (room_same _ (first_bytes _ _) c.requires)))))

pub returns : goal.returns
returns c =
    puts_same (sym (first_bytes _ _))
    (puts_then (puts_same star c.put_bytes-a.ensures)
    (puts_then c.put_decimal-b.ensures
    (puts_then (puts_same constraint c.put_bytes-c.ensures) (puts_then c.put_decimal-d.ensures (puts_same feed c.put_bytes.ensures)))))
