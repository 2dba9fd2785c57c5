-- `make_tries` meets its contract. The invariant: the tries of the turns to come are left, from the present place in the list.
-- Assumes nothing.
use Rattle.settings.specs.Settings.{settings_of}
use Rattle.tries.proofs.Trying.{Calling}
use Rattle.tries.proofs.make_tries.Given as goal

abbrev pub invariant-loop-try : goal.invariant-loop-try
invariant-loop-try l =
    Calling (settings_of l.s) l.t.tables.now l.t.terms.now l.numbers l.fn.begun (record { assignment = l.initial.assignment; tallies = l.initial.tallies; marks = l.initial.marks }) l.spent l._try
    (record { assignment = l.assignment; tallies = l.tallies; marks = l.marks })
