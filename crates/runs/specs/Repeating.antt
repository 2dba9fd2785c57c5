-- Runs of the search one after another: what they need of what is lent, what they come to, and what they leave as it was.
-- Assumes nothing.
use Rattle.std.specs.Prelude.{ℕ, ◌≤◌, ◌≡◌, List, length, drop}
use Rattle.plpb.specs.Plan.{Plan}
use Rattle.plpb.specs.Search.{search}
use Rattle.format.specs.Tables.{table_size, term_size, plan_of_tables}
use Rattle.columns.specs.Layout.{column_size, kept_size}
use Rattle.format.specs.Assignment.{assignment_size}
use Rattle.settings.specs.declared.Settings.{Settings as Asked}
use Rattle.settings.specs.Settings.{settings_of}
use Rattle.lending.specs.Work.{work}
use Rattle.lending.specs.Lent.{Lent}
use Rattle.finds.specs.Whole.{Searchable}
use Rattle.xorwow.specs.declared.Xorwow.{Xorwow}
use Rattle.xorwow.specs.Xorwow.{stream, after}
use Rattle.figures.specs.declared.Sums.{Sums}
use Rattle.figures.specs.Figures.{AtMost, plus_run, sums_of}
use Rattle.figures.specs.Runs.{answers, numbers_size}
use Rattle.runs.specs.declared.Ran.{Ran}

-- Tables that passed the test for 22, and room for everything.
pub record Ready (l : Lent) : Type 0 where
  pub searchable : Searchable l.tables l.terms l.assignment l.work_tables l.work_terms (work l.work_assignment l.work_tallies l.work_marks)
  pub numbers : numbers_size ≤ length l.numbers

-- A buffer is as it was from a place on.
pub record AsBefore (n : ℕ) (s t : List ℕ) : Type 0 where
  pub size : length t ≡ length s
  pub beyond : drop n t ≡ drop n s

-- .. each past its full limit.
pub record WithinLimits (l m : Lent) : Type 0 where
  pub numbers : AsBefore numbers_size l.numbers m.numbers
  pub assignment : AsBefore assignment_size l.assignment m.assignment
  pub work_tables : AsBefore table_size l.work_tables m.work_tables
  pub work_terms : AsBefore term_size l.work_terms m.work_terms
  pub work_assignment : AsBefore assignment_size l.work_assignment m.work_assignment
  pub work_tallies : AsBefore kept_size l.work_tallies m.work_tallies
  pub work_marks : AsBefore column_size l.work_marks m.work_marks

abbrev pub plan_in : Lent → Plan
plan_in l = plan_of_tables l.tables l.terms

-- One run over the next numbers is added to the sums.
pub record RunsOnce (l : Lent) (k : Asked) (count : ℕ) (from : Ran) (r : Ran) (m : Lent) : Type 0 where
  pub state : r.state ≡ after count from.state
  pub sums : r.sums ≡ plus_run from.sums (search (settings_of k) (plan_in l) (stream count from.state))
  pub within : WithinLimits l m

-- Runs in a row come to these sums.
pub record Repeats (l : Lent) (k : Asked) (count runs : ℕ) (g : Xorwow) (r : Sums) (m : Lent) : Type 0 where
  pub sums : r ≡ sums_of (answers (settings_of k) (plan_in l) count runs g)
  pub most : AtMost 1_000 r
  pub within : WithinLimits l m
