-- `clause_in` meets its contract, by what a word's place is.
-- Assumes nothing.
use native.Mathlib.Omega.{arith}
use Rattle.order.specs.Order.{word_place}
use Rattle.places.proofs.clause_in.Goals as goal

pub returns : goal.returns
unfolding word_place
returns c = omega arith
