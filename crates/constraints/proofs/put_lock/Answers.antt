-- `constraints::put_lock` meets its contract: its term and its end.
-- Assumes nothing.
use mathlib.Core.Path.{◌≡◌, refl, sym, ◌∙◌}
use mathlib.Core.Bool.{Bool, true, false, cond}
use lib.IntN.{pos}
use mir.Facts.{to_z-of_z}
use mir.Syntax.{w32}
use mir.Val.{bool_byte}
use Rattle.constraints.proofs.Sides.{lock_bytes_lem}
use Rattle.spelling.proofs.Puts.{puts_then, puts_same, room_same, room_first, room_after}
use Rattle.constraints.proofs.put_lock.Goals as goal

bit_is : (b : Bool) → pos (bool_byte b) ≡ cond b (pos 1) (pos 0)
bit_is true = refl
bit_is false = refl

pub put_term-a-requires : goal.put_term-a-requires
put_term-a-requires c = room_first _ _ _ (room_same _ (lock_bytes_lem _ _) c.requires)

pub put_end-requires : goal.put_end-requires
put_end-requires c =
    let held = to_z-of_z {w = w32} (record { sfits = c.from.type_inv }) ∙ c.from.ensures ∙ bit_is c.args.value in
    rw held (room_after c.put_term-a.ensures _ (room_same _ (lock_bytes_lem _ _) c.requires))

pub returns : goal.returns
returns c =
    let held = to_z-of_z {w = w32} (record { sfits = c.from.type_inv }) ∙ c.from.ensures ∙ bit_is c.args.value in
    puts_same (sym (lock_bytes_lem _ _)) (puts_then c.put_term-a.ensures (rw held at c.put_end.ensures))
