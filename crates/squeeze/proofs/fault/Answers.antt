-- `fault` meets its contract, case by case of the order.
-- Assumes nothing.
use borrow.Author.Tests.{eq-eqb, ne_eqb}
use native.Mathlib.Omega.{arith}
use mathlib.Core.Path.{sym, ◌∙◌}
use Rattle.tables.proofs.Found.{begun_front, begun_room}
use Rattle.squeeze.specs.Calls.{fault_number}
use Rattle.squeeze.proofs.Opening.{clauses_at}
use Rattle.squeeze.proofs.fault.Goals as goal

pub returns-then-variables-eq0 : goal.returns-then-variables-eq0
unfolding fault_number
returns-then-variables-eq0 c = rw (eq-eqb _ _ c.if-variables-eq0.true)

pub first_clause-requires : goal.first_clause-requires
first_clause-requires c = (begun_front _ _ c.requires.accepts, omega (arith, begun_room _ _ c.requires.accepts))

pub lost-requires : goal.lost-requires
lost-requires c =
    (_, _, clauses_at _ _ (λ i. (c.type_inv.file i).fits) c.requires.accepts c.first_clause.ensures)

pub returns-then-lost : goal.returns-then-lost
unfolding fault_number
returns-then-lost c =
    rw
    (ne_eqb _ _ c.if-variables-eq0.false, sym (c.lost.ensures _ _ (clauses_at _ _ (λ i. (c.type_inv.file i).fits) c.requires.accepts c.first_clause.ensures)) ∙ c.if-lost.true)

pub returns : goal.returns
unfolding fault_number
returns c =
    rw
    (ne_eqb _ _ c.if-variables-eq0.false, sym (c.lost.ensures _ _ (clauses_at _ _ (λ i. (c.type_inv.file i).fits) c.requires.accepts c.first_clause.ensures)) ∙ c.if-lost.false)
