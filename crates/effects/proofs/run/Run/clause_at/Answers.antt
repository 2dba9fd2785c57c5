-- `clause_at` meets its contract: the place's word tells it.
-- Assumes nothing.
use native.Mathlib.Omega.{arith}
use Rattle.effects.proofs.Runs.{going_tables}
use Rattle.effects.proofs.Places.{place_few}
use Rattle.effects.proofs.Visits.{visited, clause_here}
use Rattle.effects.proofs.run.Run.clause_at.Goals as goal

pub overflow_add-k : goal.overflow_add-k
overflow_add-k c = omega (arith, place_few (visited c.args.self.now c.requires))

pub word-requires : goal.word-requires
word-requires c = omega (arith, place_few (visited c.args.self.now c.requires), going_tables c.args.self.now.going)

pub returns : goal.returns
returns c = clause_here (visited c.args.self.now c.requires) c.word.ensures c.clause_in.ensures
