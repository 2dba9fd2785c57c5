-- "Places past the full limits are neither read nor written." (document 01, "Who can cause which refusal"): what is lent to a search may differ there,
-- and neither its answer nor a byte within the limits tells of it.
-- Assumes nothing.
use Rattle.std.specs.Prelude.{◌≡◌}
use Rattle.words.specs.Writes.{SameWithin}
use Rattle.format.specs.Layout.{table_size, term_size}
use Rattle.columns.specs.Layout.{column_size, kept_size}
use Rattle.format.specs.Assignment.{assignment_size}
use Rattle.settings.specs.declared.Settings.{Settings as Asked}
use Rattle.lending.specs.Lent.{Lent, search_refusal}
use Rattle.search.specs.Calls.{answer, search_assignment, cleared}

-- What is lent is the same within the full limits. The list of numbers has none.
pub record SameLent (l m : Lent) : Type 0 where
  pub tables : SameWithin table_size l.tables m.tables
  pub terms : SameWithin term_size l.terms m.terms
  pub numbers : l.numbers ≡ m.numbers
  pub assignment : SameWithin assignment_size l.assignment m.assignment
  pub work_tables : SameWithin table_size l.work_tables m.work_tables
  pub work_terms : SameWithin term_size l.work_terms m.work_terms
  pub work_assignment : SameWithin assignment_size l.work_assignment m.work_assignment
  pub work_tallies : SameWithin kept_size l.work_tallies m.work_tallies
  pub work_marks : SameWithin column_size l.work_marks m.work_marks

-- So are the refusal, the answer where there is none, and what is left.
pub record SameSearch (l m : Lent) (k : Asked) : Type 0 where
  pub refusal : search_refusal l k ≡ search_refusal m k
  pub answers : search_refusal l k ≡ 0 → answer l k ≡ answer m k
  pub assignment : SameWithin assignment_size (search_assignment l k) (search_assignment m k)
  pub work_tables : SameWithin table_size (cleared l k table_size l.work_tables) (cleared m k table_size m.work_tables)
  pub work_terms : SameWithin term_size (cleared l k term_size l.work_terms) (cleared m k term_size m.work_terms)
  pub work_assignment : SameWithin assignment_size (cleared l k assignment_size l.work_assignment) (cleared m k assignment_size m.work_assignment)
  pub work_tallies : SameWithin kept_size (cleared l k kept_size l.work_tallies) (cleared m k kept_size m.work_tallies)
  pub work_marks : SameWithin column_size (cleared l k column_size l.work_marks) (cleared m k column_size m.work_marks)

abbrev pub SearchesWithin : Type 0
SearchesWithin = (l m : Lent) (k : Asked) → SameLent l m → SameSearch l m k
