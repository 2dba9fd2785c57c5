-- `cells::field::quoted` meets its contract. The invariant: what is gathered with the field from the present place on is what the whole field gathers.
-- The measure is the bytes left.
-- Assumes nothing.
use mathlib.Core.Path.{◌≡◌}
use mathlib.Core.Bool.{false}
use lib.ListN.{length}
use Rattle.cells.specs.Grammar.{in_quotes}
use Rattle.cells.specs.Values.{no_bytes}
use Rattle.cells.specs.Reading.{gathered}
use Rattle.cells.proofs.field.quoted.Given as goal

abbrev pub invariant-loop-rest : goal.invariant-loop-rest
invariant-loop-rest l = gathered l.value (in_quotes false l.rest) ≡ gathered no_bytes (in_quotes false l.s)

abbrev pub decreases-loop-rest : goal.decreases-loop-rest
decreases-loop-rest l = length l.rest
