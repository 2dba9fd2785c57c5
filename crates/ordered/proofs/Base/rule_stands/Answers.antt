-- `rule_stands` meets its contract, case by case of the word's mark.
-- Assumes nothing.
use native.Mathlib.Omega.{arith}
use mathlib.Core.Path.{refl, sym, ◌∙◌}
use borrow.Author.Tests.{eq-eqb, ne_eqb, lt-ltb, le-ltb}
use Rattle.format.proofs.Bools.{and_first, and_stop}
use Rattle.ordered.proofs.Words.{no_clause, alone, among, clause_fits}
use Rattle.ordered.proofs.Base.rule_stands.Goals as goal

pub returns-then-index-c : goal.returns-then-index-c
returns-then-index-c c = no_clause _ _ c.clause_in-c.ensures c.index.ensures c.if-index-c.true

pub returns-then-index-r : goal.returns-then-index-r
returns-then-index-r c =
    sym (and_first _ _ (eq-eqb _ _ c.if-index-r.true))
    ∙ alone _ _ c.clause_in-c.ensures c.rule_in-r.ensures c.index.ensures c.if-index-c.false c.index-then-w-lt-SEVERAL.ensures c.index-then-index-r.ensures c.if-w-lt-SEVERAL.true

pub returns-else-index-r : goal.returns-else-index-r
returns-else-index-r c =
    let e = ne_eqb _ _ c.if-index-r.false in
    e ∙ sym (and_stop _ _ e) ∙ alone _ _ c.clause_in-c.ensures c.rule_in-r.ensures c.index.ensures c.if-index-c.false c.index-then-w-lt-SEVERAL.ensures refl c.if-w-lt-SEVERAL.true

pub returns-then-count-gt1 : goal.returns-then-count-gt1
returns-then-count-gt1 c =
    sym (and_first _ _ (lt-ltb _ _ c.if-count-gt1.true))
    ∙ among _ _ c.clause_in-c.ensures c.rule_in-r.ensures c.index.ensures c.if-index-c.false c.index-then-count-gt1.ensures c.index-count.ensures (omega (arith, c.ranges.w.fits)) c.if-w-lt-SEVERAL.false
    (clause_fits c.args.self.ready c.index.ensures c.if-index-c.false c.index-then-count-gt1.ensures c.index-count.ensures) refl

pub returns-else-count-gt1 : goal.returns-else-count-gt1
returns-else-count-gt1 c =
    let e = le-ltb 1 c.index-count.result c.if-count-gt1.false in
    e
    ∙ sym (and_stop _ _ e)
    ∙ among _ _ c.clause_in-c.ensures c.rule_in-r.ensures c.index.ensures c.if-index-c.false refl c.index-count.ensures (omega (arith, c.ranges.w.fits)) c.if-w-lt-SEVERAL.false
    (clause_fits c.args.self.ready c.index.ensures c.if-index-c.false refl c.index-count.ensures) refl
