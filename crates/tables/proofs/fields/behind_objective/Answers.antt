-- `tables::fields::behind_objective` meets its contract.
-- Assumes nothing.
use native.Mathlib.Omega.{arith}
use Rattle.format.specs.File.{length_at}
use Rattle.tables.specs.Places.{behind_objective}
use Rattle.tables.proofs.fields.behind_objective.Goals as goal

pub read_size-requires : goal.read_size-requires
unfolding behind_objective
read_size-requires c = omega arith

pub overflow_add-result : goal.overflow_add-result
unfolding behind_objective length_at
overflow_add-result c = omega arith

pub returns : goal.returns
unfolding behind_objective length_at
returns c = omega arith
