-- `cells::field::quoted` meets its contract.
-- Assumes nothing.
use mathlib.Core.Path.{sym, ap, ◌∙◌}
use mathlib.Core.Bool.{false}
use mathlib.Core.List.{[], ◌∷◌}
use Rattle.std.proofs.Common.{Some, None}
use Rattle.std.proofs.lemmas.Bool.Decides.{Decides-eqb}
use Rattle.std.proofs.lemmas.Slice.Eq.{strip_prefix_is}
use Rattle.cells.specs.Grammar.{quote, in_quotes}
use Rattle.cells.specs.Reading.{gathered}
use Rattle.cells.proofs.Fields.{behind, quoted_two, quoted_one, quoted_on, quoted_wrong, quoted_open}
use Rattle.cells.proofs.field.quoted.Goals as goal

pub returns-then-not-may_stand : goal.returns-then-not-may_stand
returns-then-not-may_stand c =
    let at = c.loop-rest in
    sym (quoted_wrong at.value at.rest.now c.in-len1-up.len_at_least c.if-b-eq-QUOTE.false (sym c.may_stand.ensures ∙ c.if-not-may_stand.true)) ∙ at.invariant

pub loop-rest-preserved : goal.loop-rest-preserved
loop-rest-preserved c =
    let at = c.loop-rest in
    ap (λ v. gathered v (in_quotes false (behind at.rest.now))) c.with-value-else-b-eq-QUOTE.ensures
    ∙ sym (quoted_on at.value at.rest.now c.in-len1-up.len_at_least c.if-b-eq-QUOTE.false (sym c.may_stand.ensures ∙ c.if-not-may_stand.false)) ∙ at.invariant

pub returns : goal.returns
returns c = sym (quoted_open c.loop-rest.value c.loop-rest.rest.now c.in_default.len_below) ∙ c.loop-rest.invariant

pub returns-in_default-strip_prefix : goal.returns-in_default-strip_prefix
returns-in_default-strip_prefix c =
    let at = c.loop-rest in
    let none = strip_prefix_is Decides-eqb (behind at.rest.now) (quote ∷ []) None c.in_default-strip_prefix.ensures.cases in
    sym (quoted_one at.value at.rest.now c.in-len1-up.len_at_least c.if-b-eq-QUOTE.true none) ∙ at.invariant

pub loop-rest-preserved-then-b-eq-QUOTE : goal.loop-rest-preserved-then-b-eq-QUOTE
loop-rest-preserved-then-b-eq-QUOTE c =
    let at = c.loop-rest in
    let t = c.in-Some.behind in
    let is = strip_prefix_is Decides-eqb (behind at.rest.now) (quote ∷ []) (Some t) c.in-Some.ensures.cases in
    ap (λ v. gathered v (in_quotes false t.now)) c.with-value.ensures
    ∙ sym (quoted_two at.value at.rest.now c.in-len1-up.len_at_least c.if-b-eq-QUOTE.true t.now is) ∙ at.invariant
