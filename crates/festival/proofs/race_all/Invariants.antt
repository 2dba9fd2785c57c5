-- `festival::race_all` meets its contract. The invariant: the races before i have been made, and no other.
-- Assumes nothing.
use mathlib.Core.Path.{◌≡◌}
use lib.ListN.{length, take}
use Rattle.festival.specs.Own.{works}
use Rattle.festival.specs.Festival.{given_in, buffers, raced}
use Rattle.festival.proofs.race_all.Given as goal

abbrev pub invariant-loop-i : goal.invariant-loop-i
invariant-loop-i l =
    (buffers l.assignments l.answers (works l.work_tables l.work_terms l.work_assignment l.work_tallies l.work_marks)
    ≡ raced (given_in l.g)
    (take l.i (take l.count l.parts))
    (buffers l.initial.assignments l.initial.answers (works l.initial.work_tables l.initial.work_terms l.initial.work_assignment l.initial.work_tallies l.initial.work_marks)))
    × (length l.assignments ≡ length l.initial.assignments)
    × (length l.answers ≡ length l.initial.answers)
    × (length l.work_tables ≡ length l.initial.work_tables)
    × (length l.work_terms ≡ length l.initial.work_terms)
    × (length l.work_assignment ≡ length l.initial.work_assignment)
    × (length l.work_tallies ≡ length l.initial.work_tallies)
    × (length l.work_marks ≡ length l.initial.work_marks)
