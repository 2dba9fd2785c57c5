-- `has_several` meets its contract: the place's word tells it.
-- Assumes nothing.
use native.Mathlib.Omega.{arith}
use mathlib.Core.Path.{ap, ◌∙◌}
use lib.Dec.{leb}
use Rattle.effects.proofs.Runs.{going_tables}
use Rattle.effects.proofs.Places.{place_few, place_several}
use Rattle.effects.proofs.Visits.{visited}
use Rattle.effects.proofs.run.Run.has_several.Goals as goal

pub overflow_add-k : goal.overflow_add-k
overflow_add-k c = omega (arith, place_few (visited c.args.self.now c.requires))

pub word-requires : goal.word-requires
word-requires c = omega (arith, place_few (visited c.args.self.now c.requires), going_tables c.args.self.now.going)

pub returns : goal.returns
returns c = ap (leb 2_147_483_648) c.word.ensures ∙ place_several (visited c.args.self.now c.requires)
