-- `constraints::put_relation` meets its contract, by the relation.
-- Assumes nothing.
use mathlib.Core.Path.{◌≡◌, refl, sym}
use mathlib.Core.Bool.{true, false}
use mathlib.Core.List.{[], ◌∷◌, ◌++◌}
use Rattle.texts.specs.Texts.{text}
use Rattle.opb.specs.Spell.{relation}
use Rattle.spelling.proofs.Puts.{puts_same, room_same}
use Rattle.constraints.proofs.put_relation.Goals as goal

least_is : 62 ∷ 61 ∷ 32 ∷ [] ≡ relation false ++ text " "
unfolding relation text
least_is = refl

equal_is : 61 ∷ 32 ∷ [] ≡ relation true ++ text " "
unfolding relation text
equal_is = refl

pub put_bytes-requires : goal.put_bytes-requires
put_bytes-requires c = room_same c.args.at (sym least_is) (rw c.in-AtLeast.is at c.requires)

pub returns-in-AtLeast : goal.returns-in-AtLeast
returns-in-AtLeast c = rw c.in-AtLeast.is (puts_same least_is c.put_bytes.ensures)

pub put_bytes-requires-in-Equal : goal.put_bytes-requires-in-Equal
put_bytes-requires-in-Equal c = room_same c.args.at (sym equal_is) (rw c.in-Equal.is at c.requires)

pub returns-in-Equal : goal.returns-in-Equal
returns-in-Equal c = rw c.in-Equal.is (puts_same equal_is c.put_bytes-in-Equal.ensures)
