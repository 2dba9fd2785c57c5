-- `tables::fields::terms_of` meets its contract.
-- Assumes nothing.
use native.Mathlib.Omega.{arith}
use Rattle.format.specs.File.{length_at, terms_in}
use Rattle.tables.proofs.fields.terms_of.Goals as goal

pub overflow_sub-result : goal.overflow_sub-result
unfolding length_at
overflow_sub-result c = omega arith

pub returns : goal.returns
unfolding length_at terms_in
returns c = rw c.read_size.ensures
