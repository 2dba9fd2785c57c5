-- `hint_spoils` meets its contract: the need of the side is met by the weight.
-- Assumes nothing.
use native.Mathlib.Omega.{arith}
use mathlib.Core.Path.{sym, ap, ap₂, ◌∙◌}
use Prim.Native.Nat.{◌-◌, ◌/◌}
use lib.Dec.{leb}
use Rattle.effects.proofs.Runs.{going_few}
use Rattle.effects.proofs.Visits.{going_on, has_places, visited_single}
use Rattle.effects.proofs.Places.{side_few, place_weight, place_spoils}
use Rattle.effects.proofs.footing.Footing.hint_spoils.Goals as goal

pub word-requires : goal.word-requires
word-requires c = let r = c.requires.0 in omega (arith, going_few (going_on _ (has_places r)), r.weighed.room)

pub overflow_add-side_told : goal.overflow_add-side_told
overflow_add-side_told c = let h = c.side_told.ensures in omega (arith, side_few (visited_single c.args.self.now (has_places c.requires.0) h) h.told.0)

pub word-requires-2 : goal.word-requires-2
word-requires-2 c = let h = c.side_told.ensures in omega (arith, side_few (visited_single c.args.self.now (has_places c.requires.0) h) h.told.0, c.args.self.now.sized.room)

pub returns : goal.returns
returns c =
    let h = c.side_told.ensures in
    let v = visited_single c.args.self.now (has_places c.requires.0) h in
    record {
      at = h.at;
      first = h.first;
      last = h.last;
      single = h.single;
      told = ap₂ leb c.word-2.ensures (c.weight_told-weight.ensures ∙ ap (λ w. w / 4_096 - 2) c.word.ensures ∙ h.told.1 ∙ sym (place_weight v)) ∙ place_spoils v h.told.0;
    }
