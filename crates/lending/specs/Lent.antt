-- What is lent to a search, and what of it is refused (document 01, "Who can cause which refusal").
-- Assumes nothing.
use Rattle.std.specs.Prelude.{ℕ, Bool, not, List, ltb, length}
use Rattle.plpb.specs.Lists.{◌or◌}
use Rattle.format.specs.File.{refuse}
use Rattle.format.specs.Tables.{table_size, term_size, is_loaded}
use Rattle.columns.specs.Layout.{column_size, kept_size}
use Rattle.format.specs.Assignment.{assignment_size}
use Rattle.lending.specs.Work.{Work}
use Rattle.lending.specs.declared.Lent.{Lent as Slices}
use Rattle.settings.specs.declared.Settings.{Settings as Asked}
use Rattle.settings.specs.Settings.{settings_refusal}

-- What the host program lends: the plan's tables, the list of numbers, the assignment, and the work tables: those of the plan with one clause
-- more, an assignment, its tallies, and what the choice marks of each variable.
pub record Lent : Type 0 where
  pub tables : List ℕ
  pub terms : List ℕ
  pub numbers : List ℕ
  pub assignment : List ℕ
  pub work_tables : List ℕ
  pub work_terms : List ℕ
  pub work_assignment : List ℕ
  pub work_tallies : List ℕ
  pub work_marks : List ℕ

abbrev pub lent_all : (tables terms numbers assignment work_tables work_terms work_assignment work_tallies work_marks : List ℕ) → Lent
lent_all tables terms numbers assignment work_tables work_terms work_assignment work_tallies work_marks =
    record {
      tables = tables;
      terms = terms;
      numbers = numbers;
      assignment = assignment;
      work_tables = work_tables;
      work_terms = work_terms;
      work_assignment = work_assignment;
      work_tallies = work_tallies;
      work_marks = work_marks;
    }

-- What the slices hold that the code has of it.
abbrev pub lent_in : Slices → Lent
lent_in l =
    lent_all l.tables.now l.terms.now l.numbers.now l.assignment.now l.work_tables.now l.work_terms.now l.work_assignment.now
    l.work_tallies.now l.work_marks.now

unfoldable pub too_small : Lent → Bool
too_small l =
    ltb (length l.tables) table_size or ltb (length l.terms) term_size or ltb (length l.assignment) assignment_size
    or ltb (length l.work_tables) table_size or ltb (length l.work_terms) term_size or ltb (length l.work_assignment) assignment_size
    or ltb (length l.work_tallies) kept_size or ltb (length l.work_marks) column_size

-- Whether three tables have less room than the full limits need, and whether the work tables do.
unfoldable pub tables_small : List ℕ → List ℕ → List ℕ → Bool
tables_small tables terms assignment =
    ltb (length tables) table_size or ltb (length terms) term_size or ltb (length assignment) assignment_size

unfoldable pub work_small : List ℕ → List ℕ → Work → Bool
work_small tables terms w =
    tables_small tables terms w.assignment or ltb (length w.tallies) kept_size or ltb (length w.marks) column_size

-- "Search: 21, 22, 11, 12, 13, 14."
unfoldable pub search_refusal : Lent → Asked → ℕ
search_refusal l k = refuse (too_small l) 21 (refuse (not (is_loaded l.tables l.terms)) 22 (settings_refusal k))
