-- `cut_at_hint` meets its contract: the side that the hint tells is that of a clause of one rule.
-- Assumes nothing.
use native.Mathlib.Omega.{arith}
use Rattle.effects.proofs.Runs.{going_few}
use Rattle.effects.proofs.Visits.{going_on, has_places, visited_single}
use Rattle.spoiling.proofs.Counting.{single_past}
use Rattle.spoiling.proofs.cut_at_hint.Goals as goal

pub word-requires : goal.word-requires
word-requires c = omega (arith, going_few (going_on _ (has_places c.requires)), c.requires.weighed.room)

pub hint_state-requires : goal.hint_state-requires
hint_state-requires c = (c.requires, omega (arith, c.word.ensures, c.if-word-lt-SIDE_HINTS.false))

pub returns : goal.returns
returns c = λ e.
    let h = c.hint_state.ensures in
    single_past (visited_single c.args.footing.now (has_places c.requires) h) h.single h.told (c.surely_past.ensures e)
