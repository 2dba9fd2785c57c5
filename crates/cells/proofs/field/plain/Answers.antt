-- `cells::field::plain` meets its contract.
-- Assumes nothing.
use mathlib.Core.Path.{sym, ap, ◌∙◌}
use Rattle.cells.specs.Grammar as Grammar
use Rattle.cells.specs.Reading.{gathered}
use Rattle.cells.proofs.Fields.{behind, plain_stop, plain_on, plain_end}
use Rattle.cells.proofs.field.plain.Goals as goal
use Rattle.cells.proofs.field.plain.Goals.{in_default, in-len1-up+then-not-is_text}

pub loop-rest-preserved : goal.loop-rest-preserved
loop-rest-preserved c =
    let at = c.loop-rest in
    ap (λ v. gathered v (Grammar.plain (behind at.rest.now))) c.with-value.ensures
    ∙ sym (plain_on at.value at.rest.now c.in-len1-up.len_at_least (sym c.is_text.ensures ∙ c.if-not-is_text.false)) ∙ at.invariant

pub returns : goal.returns
returns c =
    let at = c.loop-rest in
    elim c.if-rest-lt1.branch [ in_default w ↦ sym (plain_end at.value at.rest.now w.in_default.len_below) ∙ at.invariant | in-len1-up+then-not-is_text w ↦ sym (plain_stop at.value at.rest.now w.in-len1-up.len_at_least (sym w.is_text.ensures ∙ w.if-not-is_text.true)) ∙ at.invariant ]
