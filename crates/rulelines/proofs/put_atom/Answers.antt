-- `rulelines::put_atom` meets its contract: two lines where the bound is there, else one.
-- Assumes nothing.
use Prim.Native.Nat.{◌≤◌}
use mathlib.Core.Path.{refl, sym, ◌∙◌}
use lib.IntN.{nat_abs}
use mir.Facts.{to_z-of_z}
use mir.Syntax.{w32}
use Rattle.extremes.specs.Sums.{terms_of}
use Rattle.constraints.specs.Sides.{turns}
use Rattle.spelling.proofs.Puts.{puts_then, puts_same, room_same, room_first, room_after}
use Rattle.rulelines.proofs.Lines.{Numbers, held, atom_absent, atom_parts, numbers_held, second_small, far_small, near_small}
use Rattle.rulelines.proofs.put_atom.Goals.{After-past-next}
use Rattle.rulelines.proofs.put_atom.Goals as goal

pub put_fixed-requires : goal.put_fixed-requires
put_fixed-requires c = room_same c.args.at (sym (atom_absent _ _ _)) (rw c.in_default.is at c.requires.room)

pub returns-in_default : goal.returns-in_default
returns-in_default c = rw c.in_default.is (puts_same (atom_absent _ _ _) c.put_fixed.ensures)

-- The bound is small, and the numbers of the two lines are what their names say.
module _ (c : After-past-next) where
  small : nat_abs c.in-Some.b ≤ 1_000_000_000
  small = rw c.in-Some.is at c.requires.small

  numbers : Numbers (turns c.args.side) (terms_of c.args.sum.now) (held c.in-Some.b) (held c.extreme-end.result) (held c.extreme-far_end.result) (held c.past-next.result)
  numbers =
      numbers_held c.in-Some.b small c.other-far_side.ensures (record { sfits = c.extreme-end.type_inv }) c.extreme-end.ensures
      (record { sfits = c.extreme-far_end.type_inv }) c.extreme-far_end.ensures (record { sfits = c.past-next.type_inv }) c.past-next.ensures

pub put_constraint-a-requires : goal.put_constraint-a-requires
put_constraint-a-requires c =
    let p = (goal.at.put_constraint-a-requires c).After-past-next in
    let far = to_z-of_z {w = w32} (record { sfits = c.minus.type_inv }) ∙ c.minus.ensures in
    record { small = far_small (numbers p) far refl; room = room_first _ _ _ (room_same _ (atom_parts c.in-Some.is (small p) (numbers p) far refl _) c.requires.room) }

pub minus-requires-2 : goal.minus-requires-2
minus-requires-2 c = second_small (numbers (goal.at.minus-requires-2 c).After-past-next)

pub put_constraint-requires : goal.put_constraint-requires
put_constraint-requires c =
    let p = (goal.at.put_constraint-requires c).After-past-next in
    let far = to_z-of_z {w = w32} (record { sfits = c.minus.type_inv }) ∙ c.minus.ensures in
    let near = to_z-of_z {w = w32} (record { sfits = c.minus-2.type_inv }) ∙ c.minus-2.ensures in
    record {
      small = near_small (numbers p) far near;
      room = rw c.other-far_side.ensures (room_after c.put_constraint-a.ensures _ (room_same _ (atom_parts c.in-Some.is (small p) (numbers p) far near _) c.requires.room));
    }

pub returns : goal.returns
returns c =
    let p = (goal.at.returns c).After-past-next in
    let far = to_z-of_z {w = w32} (record { sfits = c.minus.type_inv }) ∙ c.minus.ensures in
    let near = to_z-of_z {w = w32} (record { sfits = c.minus-2.type_inv }) ∙ c.minus-2.ensures in
    puts_same (sym (atom_parts c.in-Some.is (small p) (numbers p) far near _)) (puts_then c.put_constraint-a.ensures (rw c.other-far_side.ensures at c.put_constraint.ensures))
