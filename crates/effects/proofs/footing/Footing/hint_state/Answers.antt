-- `hint_state` meets its contract: the words of the rule tell the state, the side how the variable stands.
-- Assumes nothing.
use native.Mathlib.Omega.{arith}
use mathlib.Core.Path.{sym, ap, ◌∙◌}
use Prim.Native.Nat.{◌-◌, ◌/◌}
use Rattle.effects.proofs.Runs.{going_few}
use Rattle.effects.proofs.Visits.{going_on, has_places, visited_single}
use Rattle.effects.proofs.Places.{place_weight, side_countable, side_state}
use Rattle.effects.proofs.footing.Footing.hint_state.Goals as goal

pub word-requires : goal.word-requires
word-requires c = let r = c.requires.0 in omega (arith, going_few (going_on _ (has_places r)), r.weighed.room)

pub told-requires : goal.told-requires
told-requires c = let h = c.side_told-side.ensures in (side_countable (visited_single c.args.self.now (has_places c.requires.0) h) h.told.0, c.args.self.now.sized.room)

pub returns : goal.returns
returns c =
    let h = c.side_told-side.ensures in
    let v = visited_single c.args.self.now (has_places c.requires.0) h in
    record {
      at = h.at;
      first = h.first;
      last = h.last;
      single = h.single;
      told = side_state v h.told.0 (c.weight_told-weight.ensures ∙ ap (λ w. w / 4_096 - 2) c.word.ensures ∙ h.told.1 ∙ sym (place_weight v)) c.stands_on.ensures c.told.ensures;
    }
