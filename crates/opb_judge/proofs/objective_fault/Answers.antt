-- `opb_judge::objective_fault` meets its contract.
-- Assumes nothing.
use mathlib.Core.Path.{refl, sym, ap, ap₂, subst, ◌∙◌}
use borrow.Author.Tests.{not-true, not-false}
use Rattle.plpb.specs.Lists.{◌and◌, is_empty}
use Rattle.statements.specs.Grammar.{objective_formed, closes, terms_in, has_terms}
use Rattle.tokens.proofs.Runs.{both_is, read_behind}
use Rattle.opb_lines.specs.ReadText.{objective_fault}
use Rattle.std.proofs.lemmas.Result.{err_from_is_err_and}
use Rattle.opb_judge.specs.Steps.{Finds}
use Rattle.opb_judge.proofs.Faults.{refused_late, refused_some, met_same, malformed_is, named_is, above_first, lawful_last, told_on}
use Rattle.opb_judge.proofs.objective_fault.Goals as goal

pub returns-in_err-fault_if : goal.returns-in_err-fault_if
unfolding objective_fault objective_formed has_terms
returns-in_err-fault_if c =
    let line = c.args.line in
    let named = c.is_some-named.ensures ∙ named_is line.text c.past_word.result c.past_word.ensures in
    let shut = c.closed.ensures ∙ read_behind c.requires.rest (λ s k. closes s k line.end) ∙ ap (closes _ _) line.ends in
    let formed = both_is _ _ ∙ ap (λ b. c.args.free and b) (both_is _ _ ∙ ap₂ ◌and◌ named shut) in
    let is = err_from_is_err_and c.from_residual.result c.from_residual.ensures.1 in
    rw (is.1, is.2) (told_on refl c.in_err-fault_if.ensures.1 (refused_late _ (malformed_is _ _ _ _ (sym formed ∙ not-true _ c.in_err-fault_if.ensures.0))))

pub returns-in_err-fault_if-2 : goal.returns-in_err-fault_if-2
unfolding objective_fault objective_formed has_terms
returns-in_err-fault_if-2 c =
    let line = c.args.line in
    let sum = c.requires in
    let named = c.is_some-named.ensures ∙ named_is line.text c.past_word.result c.past_word.ensures in
    let shut = c.closed.ensures ∙ read_behind sum.rest (λ s k. closes s k line.end) ∙ ap (closes _ _) line.ends in
    let formed = both_is _ _ ∙ ap (λ b. c.args.free and b) (both_is _ _ ∙ ap₂ ◌and◌ named shut) in
    let same = met_same (sym (not-false _ c.in_ok-fault_if.ensures) ∙ formed) sum.above refl refl sum.lawful ∙ refused_some (is_empty (terms_in line.text.bytes.now line.text.at)) _ sum.some in
    let is = err_from_is_err_and c.from_residual-in_err-fault_if-2.result c.from_residual-in_err-fault_if-2.ensures.1 in
    rw (is.1, is.2) (told_on same c.in_err-fault_if-2.ensures.1 (above_first _ _ _ c.in_err-fault_if-2.ensures.0))

pub returns : goal.returns
unfolding objective_fault objective_formed has_terms
returns c =
    let line = c.args.line in
    let sum = c.requires in
    let named = c.is_some-named.ensures ∙ named_is line.text c.past_word.result c.past_word.ensures in
    let shut = c.closed.ensures ∙ read_behind sum.rest (λ s k. closes s k line.end) ∙ ap (closes _ _) line.ends in
    let formed = both_is _ _ ∙ ap (λ b. c.args.free and b) (both_is _ _ ∙ ap₂ ◌and◌ named shut) in
    subst (λ k. Finds k c.fault_if-3.result)
    (met_same (sym (not-false _ c.in_ok-fault_if.ensures) ∙ formed) sum.above refl refl sum.lawful ∙ refused_some (is_empty (terms_in line.text.bytes.now line.text.at)) _ sum.some)
    (lawful_last _ c.in_ok-fault_if-2.ensures refl refl _ c.fault_if-3.ensures)
