-- Figures over many runs as a definition on what is lent and asked: the refusal, the figures and the bytes left (document 02, T-11).
-- Assumes nothing.
use Rattle.std.specs.Prelude.{ℕ, ◌≡◌, cond, List, ◌++◌, eqb, drop, replicate}
use Rattle.format.specs.Tables.{table_size, term_size}
use Rattle.columns.specs.Layout.{column_size, kept_size}
use Rattle.format.specs.Assignment.{assignment_size}
use Rattle.settings.specs.Settings.{settings_of}
use Rattle.lending.specs.Lent.{Lent}
use Rattle.figures.specs.declared.Figures.{Figures}
use Rattle.figures.specs.Figures.{figures_of, refused_with}
use Rattle.figures.specs.Runs.{answers, numbers_size}
use Rattle.runs.specs.Repeating.{plan_in}
use Rattle.trials.specs.declared.Trial.{Trial}
use Rattle.trials.specs.Trials.{runs_refusal}

-- What is reported.
unfoldable pub reported : Lent → Trial → Figures
reported l t =
    cond (eqb (runs_refusal l t) 0) (figures_of (answers (settings_of t.settings) (plan_in l) t.count t.runs t.state))
    (refused_with (runs_refusal l t))

-- "Each buffer lent for writing ends filled with 0 to its full limit.", and is as it was past that, and with a refusal.
unfoldable pub zeroed : Lent → Trial → ℕ → List ℕ → List ℕ
zeroed l t size bytes = cond (eqb (runs_refusal l t) 0) (replicate size 0 ++ drop size bytes) bytes

-- A call reports this, and leaves this of what was lent.
pub record Reports (l : Lent) (t : Trial) (r : Figures) (left : Lent) : Type 0 where
  pub figures : r ≡ reported l t
  pub numbers : left.numbers ≡ zeroed l t numbers_size l.numbers
  pub assignment : left.assignment ≡ zeroed l t assignment_size l.assignment
  pub work_tables : left.work_tables ≡ zeroed l t table_size l.work_tables
  pub work_terms : left.work_terms ≡ zeroed l t term_size l.work_terms
  pub work_assignment : left.work_assignment ≡ zeroed l t assignment_size l.work_assignment
  pub work_tallies : left.work_tallies ≡ zeroed l t kept_size l.work_tallies
  pub work_marks : left.work_marks ≡ zeroed l t column_size l.work_marks
