-- `cells::field::last` meets its contract.
-- Assumes nothing.
use native.Mathlib.Omega.{arith}
use mathlib.Core.List.{[], ◌∷◌}
use Rattle.std.proofs.Common.{Some, None}
use Rattle.std.proofs.lemmas.Bool.Decides.{Decides-eqb, nat_tests}
use Rattle.std.proofs.lemmas.Slice.Eq.{strip_prefix_is}
use Rattle.cells.specs.Grammar.{cr, lf}
use Rattle.cells.proofs.Fields.{no_more, end_list, end_right, end_wrong}
use Rattle.cells.proofs.field.last.Goals as goal

pub returns-in_err-field : goal.returns-in_err-field
returns-in_err-field c = rw c.from_residual.ensures (no_more _ c.in_err-field.ensures).1

pub returns-then-is_empty : goal.returns-then-is_empty
returns-then-is_empty c = end_list _ c.in_ok-field.field c.in_ok-field.ensures (grind (arith, nat_tests))

pub returns-in_err-rest : goal.returns-in_err-rest
returns-in_err-rest c =
    let r = c.in_ok-field.field in
    rw c.from_residual-in_err-rest.ensures
    (end_wrong _ r c.in_ok-field.ensures (grind (arith, nat_tests)) (strip_prefix_is Decides-eqb r.rest.now (cr ∷ lf ∷ []) None c.in_err-rest.ensures.cases))

pub returns : goal.returns
returns c =
    let r = c.in_ok-field.field in
    end_right _ r c.in_ok-field.ensures _ (strip_prefix_is Decides-eqb r.rest.now (cr ∷ lf ∷ []) (Some c.in_ok-rest.rest) c.in_ok-rest.ensures.cases)
