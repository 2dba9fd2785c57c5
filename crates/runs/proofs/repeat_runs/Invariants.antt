-- `repeat_runs` meets its contract. The loop's invariant: with what the runs that are left add, the sums come to those of all runs.
-- Assumes nothing.
use Prim.Native.Nat.{◌-◌}
use mathlib.Core.Path.{◌≡◌}
use Rattle.format.specs.Tables.{plan_of_tables}
use Rattle.settings.specs.Settings.{settings_of}
use Rattle.lending.specs.Lent.{lent_all}
use Rattle.figures.specs.Figures.{AtMost}
use Rattle.figures.specs.Runs.{answers}
use Rattle.figures.proofs.Adding.{total}
use Rattle.runs.specs.Repeating.{WithinLimits}
use Rattle.runs.proofs.repeat_runs.Given as goal

abbrev pub invariant-loop-run : goal.invariant-loop-run
invariant-loop-run l =
    AtMost l._run l.ran.sums
    × (total l.ran.sums (answers (settings_of l.t.settings) (plan_of_tables l.tables l.terms) l.t.count (l.t.runs - l._run) l.ran.state)
    ≡ total l.initial.ran.sums (answers (settings_of l.t.settings) (plan_of_tables l.tables l.terms) l.t.count l.t.runs l.initial.ran.state))
    × WithinLimits (lent_all l.tables l.terms l.initial.numbers l.initial.assignment l.initial.work_tables l.initial.work_terms l.initial.work_assignment l.initial.work_tallies l.initial.work_marks)
    (lent_all l.tables l.terms l.numbers l.assignment l.work_tables l.work_terms l.work_assignment l.work_tallies l.work_marks)
