-- `descend` meets its contract. The invariant: the tightening from where the search is comes to what it comes to from the first find. The
-- measure is the gap of the last find's cost above l(O), which each find makes smaller.
-- Assumes nothing.
use Rattle.plpb.specs.Search.{gap}
use Rattle.tallies.specs.Layout.{bits_of}
use Rattle.settings.specs.Settings.{settings_of, mode_of}
use Rattle.progress.specs.Bounds.{basis}
use Rattle.progress.proofs.Concluding.{Since}
use Rattle.descent.proofs.descend.Given as goal

abbrev pub invariant-loop-at : goal.invariant-loop-at
invariant-loop-at l =
    Since (settings_of l.s) (mode_of l.mode) (basis l.initial.tables l.terms) l.terms l.numbers l.initial.tables l.initial.assignment (record { assignment = l.initial.tried; tallies = l.initial.tallies; marks = l.initial.marks }) l.initial.at
    l.tables l.assignment (record { assignment = l.tried; tallies = l.tallies; marks = l.marks }) l.at

abbrev pub decreases-loop-at : goal.decreases-loop-at
decreases-loop-at l =
    gap (basis l.initial.tables l.terms) (bits_of (basis l.initial.tables l.terms).variables l.assignment)
