-- `hint_breaks` meets its contract: a side that the flip spoils is that of a clause of one rule.
-- Assumes nothing.
use native.Mathlib.Omega.{arith}
use mathlib.Core.Path.{sym, ◌∙◌}
use Rattle.effects.proofs.Runs.{going_few}
use Rattle.effects.proofs.Visits.{going_on, has_places, visited_single}
use Rattle.freely.proofs.Free.{place_breaks}
use Rattle.freely.proofs.hint_breaks.Goals as goal

pub word-hint-requires : goal.word-hint-requires
word-hint-requires c = omega (arith, going_few (going_on _ (has_places c.requires)), c.requires.weighed.room)

pub hint_spoils-requires : goal.hint_spoils-requires
hint_spoils-requires c = (c.requires, omega (arith, c.word-hint.ensures, c.if-hint-lt-SIDE_HINTS.false))

pub returns : goal.returns
returns c = λ e.
    let h = c.hint_spoils.ensures in
    place_breaks (visited_single c.args.footing.now (has_places c.requires) h) h.single (sym h.told ∙ e)
