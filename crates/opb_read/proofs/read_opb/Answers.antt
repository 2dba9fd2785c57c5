-- `opb_read::read_opb` meets its contract, case by case of the order of checks.
-- Assumes nothing.
use mathlib.Core.Path.{◌∙◌}
use Rattle.tables.proofs.Ordered.{order_ready, order_left}
use Rattle.opb_fill.proofs.Accepted.{lawful_text}
use Rattle.opb_read.proofs.Whole.{says, small_tables, small_terms_lem, kept, filled}
use Rattle.verdict.proofs.Passed.{passed_on}
use Rattle.opb_read.proofs.read_opb.Goals.{then-tables-lt-TABLES-via-then-tables-lt-TABLES, then-tables-lt-TABLES-via-else-tables-lt-TABLES+then-terms-lt-TERMS}
use Rattle.opb_read.proofs.read_opb.Goals as goal

pub returns-in_err-judge_text : goal.returns-in_err-judge_text
returns-in_err-judge_text c = let whole = let same = passed_on _ _ c.from_residual.ensures.1 in
    kept _ _ _ c.if-tables-lt-TABLES.false c.if-terms-lt-TERMS.false _ _ _ (same ∙ c.in_err-judge_text.ensures) same in record { value = whole.0; tables_after = whole.1.0; terms_after = whole.1.1 }

pub invariant_of-lawful : goal.invariant_of-lawful
invariant_of-lawful c = record { says = says _ c.in_ok-judge_text.ensures }

-- What stands in the two tables before the order is built.
pub derive-requires : goal.derive-requires
derive-requires c =
    let said = says _ (c.in_ok-judge_text.ensures) in
    order_ready _ (lawful_text _ _ said) _ _ c.if-tables-lt-TABLES.false c.fill_tables.ensures c.fill_terms.ensures

pub returns : goal.returns
returns c =
    let said = says _ (c.in_ok-judge_text.ensures) in
    let tables = order_left _ (lawful_text _ _ said) _ _ c.if-tables-lt-TABLES.false c.fill_tables.ensures c.fill_terms.ensures c.derive.ensures in
    let whole = filled _ _ _ c.if-tables-lt-TABLES.false c.if-terms-lt-TERMS.false _ _ said tables c.fill_terms.ensures in record { value = whole.0; tables_after = whole.1.0; terms_after = whole.1.1 }

pub returns-then-tables-lt-TABLES : goal.returns-then-tables-lt-TABLES
returns-then-tables-lt-TABLES c =
    elim c.then-tables-lt-TABLES.branch [
      | then-tables-lt-TABLES-via-then-tables-lt-TABLES w ↦
          let whole = small_tables _ _ _ w.if-tables-lt-TABLES.true in record { value = whole.0; tables_after = whole.1.0; terms_after = whole.1.1 }
      | then-tables-lt-TABLES-via-else-tables-lt-TABLES+then-terms-lt-TERMS w ↦
          let whole = small_terms_lem _ _ _ w.if-terms-lt-TERMS.true in record { value = whole.0; tables_after = whole.1.0; terms_after = whole.1.1 }
    ]
