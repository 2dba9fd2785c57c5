-- `spoils_at` meets its contract: the need of its side is met by the weight.
-- Assumes nothing.
use native.Mathlib.Omega.{arith}
use mathlib.Core.Path.{ap₂, ◌∙◌}
use lib.Dec.{leb}
use Rattle.effects.proofs.Places.{place_few, side_few, place_spoils}
use Rattle.effects.proofs.Visits.{visited}
use Rattle.effects.proofs.run.Run.spoils_at.Goals as goal

pub returns : goal.returns
returns c = ap₂ leb c.word.ensures c.word-2.ensures ∙ place_spoils (visited c.args.self.now c.requires) c.side_at.ensures

pub overflow_add-side_at : goal.overflow_add-side_at
overflow_add-side_at c = omega (arith, side_few (visited c.args.self.now c.requires) c.side_at.ensures)

pub word-requires : goal.word-requires
word-requires c = omega (arith, side_few (visited c.args.self.now c.requires) c.side_at.ensures, c.args.self.now.footing.now.sized.room)

pub overflow_add-k : goal.overflow_add-k
overflow_add-k c = omega (arith, place_few (visited c.args.self.now c.requires))

pub word-requires-2 : goal.word-requires-2
word-requires-2 c = omega (arith, place_few (visited c.args.self.now c.requires), c.args.self.now.going.kept.weighed.room)
