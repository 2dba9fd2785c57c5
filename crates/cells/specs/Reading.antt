-- What the code answers of a field, beside the grammar.
-- Assumes nothing.
use Rattle.std.specs.Prelude.{ℕ, List, Option, Some, None}
use Rattle.cells.specs.declared.value.Value.{Value}
use Rattle.cells.specs.declared.field.Field.{Field as FieldT}
use Rattle.cells.specs.Grammar.{Field, broken, field}
use Rattle.cells.specs.Values.{gather_from}

-- A field's value, gathered behind what was gathered before it, and the bytes behind the field.
pub record Gathered : Type 0 where
  pub value : Value
  pub rest : List ℕ

unfoldable pub gathered : Value → Field → Option Gathered
gathered v broken = None
gathered v (field value rest) = Some (record { value = gather_from v value; rest = rest })

-- The same of the code's field.
abbrev pub read_off : Option FieldT → Option Gathered
read_off None = None
read_off (Some r) = Some (record { value = r.value; rest = r.rest.now })
