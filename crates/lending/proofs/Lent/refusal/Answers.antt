-- `refusal` meets its contract: each test answers what the definition asks next.
-- Assumes nothing.
use borrow.Author.Tests.{not-true, not-false}
use mathlib.Core.Path.{sym, ◌∙◌}
use Rattle.lending.proofs.Tests.{tables_21, work_21, tables_22, settings_last}
use Rattle.lending.proofs.Lent.refusal.Goals as goal

pub returns-then-tables_small : goal.returns-then-tables_small
returns-then-tables_small c = tables_21 _ _ c.tables_small.ensures c.if-tables_small.true

pub returns-then-work_small : goal.returns-then-work_small
returns-then-work_small c = work_21 _ _ c.tables_small.ensures c.if-tables_small.false c.work_small.ensures c.if-work_small.true

pub returns-then-not-good : goal.returns-then-not-good
returns-then-not-good c =
    tables_22 _ _ c.tables_small.ensures c.if-tables_small.false c.work_small.ensures c.if-work_small.false (sym c.good.ensures ∙ not-true _ c.if-not-good.true-raw)

pub returns : goal.returns
returns c =
    c.settings_refusal.ensures
    ∙ settings_last _ _ c.tables_small.ensures c.if-tables_small.false c.work_small.ensures c.if-work_small.false (sym c.good.ensures ∙ not-false _ c.if-not-good.false-raw)
