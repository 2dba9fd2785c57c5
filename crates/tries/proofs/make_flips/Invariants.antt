-- `make_flips` meets its contract. The invariant: the flips of the turns to come are left, from the present assignment and place in the list.
-- Assumes nothing.
use Rattle.settings.specs.Settings.{settings_of}
use Rattle.tries.proofs.Trying.{Flipping}
use Rattle.tries.proofs.make_flips.Given as goal

abbrev pub invariant-loop-turn : goal.invariant-loop-turn
invariant-loop-turn l =
    Flipping (settings_of l.s) l.t.tables.now l.t.terms.now l.numbers l.fn.begun (record { assignment = l.initial.assignment; tallies = l.initial.tallies; marks = l.initial.marks }) l.spent l.turn
    (record { assignment = l.assignment; tallies = l.tallies; marks = l.marks })
