-- `cells::field::lead` meets its contract.
-- Assumes nothing.
use mathlib.Core.List.{[], ◌∷◌}
use Rattle.std.proofs.Common.{Some, None}
use Rattle.std.proofs.lemmas.Bool.Decides.{Decides-eqb}
use Rattle.std.proofs.lemmas.Slice.Eq.{strip_prefix_is}
use Rattle.cells.specs.Grammar.{comma}
use Rattle.cells.proofs.Fields.{no_more, comma_wrong, comma_right}
use Rattle.cells.proofs.field.lead.Goals as goal

pub returns-in_err-field : goal.returns-in_err-field
returns-in_err-field c = rw c.from_residual.ensures (no_more _ c.in_err-field.ensures).0

pub returns-in_err-rest : goal.returns-in_err-rest
returns-in_err-rest c =
    let r = c.in_ok-field.field in
    rw c.from_residual-in_err-rest.ensures (comma_wrong _ r c.in_ok-field.ensures (strip_prefix_is Decides-eqb r.rest.now (comma ∷ []) None c.in_err-rest.ensures.cases))

pub returns : goal.returns
returns c =
    let r = c.in_ok-field.field in
    comma_right _ r c.in_ok-field.ensures _ (strip_prefix_is Decides-eqb r.rest.now (comma ∷ []) (Some c.in_ok-rest.rest) c.in_ok-rest.ensures.cases)
