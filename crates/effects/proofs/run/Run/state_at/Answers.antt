-- `state_at` meets its contract: the words of its rule tell the state, the side how the variable stands.
-- Assumes nothing.
use native.Mathlib.Omega.{arith}
use Rattle.effects.proofs.Places.{place_few, side_countable, side_state}
use Rattle.effects.proofs.Visits.{visited}
use Rattle.effects.proofs.run.Run.state_at.Goals as goal

pub returns : goal.returns
returns c = side_state (visited c.args.self.now c.requires) c.side_at-side.ensures c.word.ensures c.stands_on.ensures c.told.ensures

pub overflow_add-k : goal.overflow_add-k
overflow_add-k c = omega (arith, place_few (visited c.args.self.now c.requires))

pub word-requires : goal.word-requires
word-requires c = omega (arith, place_few (visited c.args.self.now c.requires), c.args.self.now.going.kept.weighed.room)

pub told-requires : goal.told-requires
told-requires c = (side_countable (visited c.args.self.now c.requires) c.side_at-side.ensures, c.args.self.now.footing.now.sized.room)
