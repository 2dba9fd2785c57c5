-- `order_good` meets its contract: its parts, joined in the definition's order.
-- Assumes nothing.
use borrow.Author.Tests.{ne_eqb}
use borrow.Author.Tests.{eq-eqb}
use mathlib.Core.Path.{◌≡◌, sym, ap, ◌∙◌, subst}
use mathlib.Core.Bool.{Bool, true, false, not}
use lib.Dec.{T}
use native.Mathlib.Omega.{arith}
use Rattle.ordered.proofs.Words.{sound}
use Rattle.ordered.proofs.Runs.{order_begins, order_runs, order_last, order_gap, order_told}
use Rattle.ordered.proofs.order_good.Goals.{then-index-total, else-index-total}
use Rattle.ordered.proofs.order_good.Goals as goal

pub returns-then-word-ne0 : goal.returns-then-word-ne0
returns-then-word-ne0 c = order_begins _ _ c.word.ensures c.index-variables.ensures c.index-total.ensures (ap not (ne_eqb _ _ c.if-word-ne0.true))

pub returns-then-not-runs_good : goal.returns-then-not-runs_good
returns-then-not-runs_good c = order_runs _ _ c.word.ensures c.index-variables.ensures c.index-total.ensures (ap not (eq-eqb _ _ c.if-word-ne0.false)) c.runs_good.ensures (ap not c.if-not-runs_good.true)

never : {A : Type 0} → false ≡ true → A
never e = absurd (subst (λ (b : Bool). T b) (sym e) tt)

pub returns-then-zeros : goal.returns-then-zeros
returns-then-zeros c =
    let s = sound c.requires in
    elim c.if-index-total.branch [
      | then-index-total w ↦
          order_told _ _ c.word.ensures c.index-variables.ensures c.index-total.ensures (ap not (eq-eqb _ _ c.if-word-ne0.false)) c.runs_good.ensures (ap not c.if-not-runs_good.false) c.index.ensures
          w.if-index-total.true (omega (arith, c.index-variables.ensures, s.variables)) w.zeros.ensures (sym w.value-is ∙ c.if-zeros.true) c.zeros-then-zeros.ensures (omega (arith, c.index-total.ensures, s.terms))
      | else-index-total w ↦ never (sym (ne_eqb _ _ w.if-index-total.false) ∙ sym w.value-is ∙ c.if-zeros.true)
    ]

pub returns-else-zeros : goal.returns-else-zeros
returns-else-zeros c =
    let s = sound c.requires in
    elim c.if-index-total.branch [
      | then-index-total w ↦
          c.if-zeros.false
          ∙ order_gap _ _ c.word.ensures c.index-variables.ensures c.index-total.ensures (ap not (eq-eqb _ _ c.if-word-ne0.false)) c.runs_good.ensures (ap not c.if-not-runs_good.false) c.index.ensures
          w.if-index-total.true (omega (arith, c.index-variables.ensures, s.variables)) w.zeros.ensures (sym w.value-is ∙ c.if-zeros.false)
      | else-index-total w ↦
          c.if-zeros.false
          ∙ order_last _ _ c.word.ensures c.index-variables.ensures c.index-total.ensures (ap not (eq-eqb _ _ c.if-word-ne0.false)) c.runs_good.ensures (ap not c.if-not-runs_good.false) c.index.ensures w.if-index-total.false
    ]
