-- `rows::row::among` meets its contract. The invariant: the code stands at the k-th row, and none of those before it has the value.
-- Assumes nothing.
use mathlib.Core.Path.{◌≡◌}
use mathlib.Core.Bool.{false}
use lib.ListN.{take}
use Rattle.plpb.specs.Lists.{any}
use Rattle.cells.specs.Grammar.{rows_of, column_of}
use Rattle.cells.specs.Values.{gather, same_value}
use Rattle.rows.specs.Reading.{columns, is_zones, place}
use Rattle.rows.proofs.Rows.{Place}
use Rattle.rows.proofs.row.among.Given as goal

abbrev pub invariant-loop-row : goal.invariant-loop-row
invariant-loop-row l =
    Place (is_zones l.listed) l.s l._row l.rest × (any (λ x. same_value (gather (column_of (place l.which) x)) l.value) (take l._row (rows_of (columns (is_zones l.listed)) l.s)) ≡ false)
