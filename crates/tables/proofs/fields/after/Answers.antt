-- `tables::fields::after` meets its contract.
-- Assumes nothing.
use native.Mathlib.Omega.{arith}
use Rattle.format.specs.File.{length_at}
use Rattle.tables.specs.Places.{behind_field}
use Rattle.tables.proofs.fields.after.Goals as goal

pub overflow_add-result : goal.overflow_add-result
unfolding behind_field length_at
overflow_add-result c = omega arith

pub overflow_add-at : goal.overflow_add-at
unfolding behind_field length_at
overflow_add-at c = omega arith

pub read_size-requires : goal.read_size-requires
unfolding behind_field length_at
read_size-requires c = omega arith

pub overflow_add-result-2 : goal.overflow_add-result-2
unfolding behind_field length_at
overflow_add-result-2 c = omega arith

pub returns : goal.returns
unfolding behind_field length_at
returns c = omega arith
