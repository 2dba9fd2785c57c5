-- What the code answers of a row, beside the grammar.
-- Assumes nothing.
use Rattle.std.specs.Prelude.{ℕ, ◌≡◌, Bool, true, false, cond, Option as Answer, MatchOption}
use Rattle.std.proofs.Math.Option.{Option, none, some}
use Rattle.cells.specs.Grammar.{Record, Row, malformed, values_in, behind_row, column_of}
use Rattle.cells.specs.Values.{gather}
use Rattle.rows.specs.declared.row.Column.{Column}
use Rattle.rows.specs.declared.row.Column.TheVariants.{First, Second, Third, Fourth}
use Rattle.rows.specs.declared.row.Listed.{Listed}
use Rattle.rows.specs.declared.row.Listed.TheVariants.{Sites, Zones}
use Rattle.rows.specs.declared.row.Row.{Row as RowT}

-- A row is well formed, or not.
unfoldable pub is_some : Option Record → Bool
is_some none = false
is_some (some values) = true

-- The code's row holds these values.
pub record Holds (x : Option Record) (r : RowT) : Type 0 where
  pub formed : is_some x ≡ true
  pub first_is : r.first ≡ gather (column_of 0 x)
  pub second_is : r.second ≡ gather (column_of 1 x)
  pub third_is : r.third ≡ gather (column_of 2 x)
  pub fourth_is : r.fourth ≡ gather (column_of 3 x)

-- .. and what follows it.
pub record ReadsRow (w : Row) (r : RowT) : Type 0 where
  pub holds : Holds (values_in w) r
  pub rest_is : behind_row w ≡ r.rest.now

-- The code answers this row, or none where it is malformed.
abbrev pub Reads : Row → Answer RowT → Type 0
Reads w r = MatchOption r (w ≡ malformed) (ReadsRow w)

-- A row of the first list, of three columns, or of the second, of four.
abbrev pub columns : Bool → ℕ
columns four = cond four 4 3

abbrev pub is_zones : Listed → Bool
is_zones Sites = false
is_zones Zones = true

-- A column's place, from 0.
abbrev pub place : Column → ℕ
place First = 0
place Second = 1
place Third = 2
place Fourth = 3
