-- `opb_fill::put_coefficients` meets its contract. The invariant: what the terms to come would still write over the table is what all write over the first. The
-- measure is what is left of the text.
-- Assumes nothing.
use Prim.Native.Nat.{◌-◌}
use lib.ListN.{length}
use Rattle.tables.proofs.Dense.{Placing}
use Rattle.tokens.specs.Found.{read}
use Rattle.statements.specs.Grammar.{sum_at}
use Rattle.opb_fill.specs.Fill.{InRange}
use Rattle.opb_fill.proofs.put_coefficients.Given as goal

abbrev pub invariant-loop-term : goal.invariant-loop-term
invariant-loop-term l = InRange (read sum_at l.text) × Placing (read sum_at l.t) l.initial.out (read sum_at l.text) l.out

abbrev pub decreases-loop-term : goal.decreases-loop-term
decreases-loop-term l = length l.text.bytes.now - l.text.at
