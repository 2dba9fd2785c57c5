-- `tables::load` meets its contract, case by case of the order of checks.
-- Assumes nothing.
use mathlib.Core.Path.{◌∙◌}
use Rattle.tables.proofs.Filled.{lawful_file}
use Rattle.tables.proofs.Ordered.{order_ready, order_left}
use Rattle.tables.proofs.Whole.{accepts, small_tables, small_terms_lem, kept, filled}
use Rattle.verdict.proofs.Passed.{passed_on}
use Rattle.tables.proofs.load.Goals.{then-tables-lt-TABLES-via-then-tables-lt-TABLES, then-tables-lt-TABLES-via-else-tables-lt-TABLES+then-terms-lt-TERMS}
use Rattle.tables.proofs.load.Goals as goal

pub returns-in_err-judge : goal.returns-in_err-judge
returns-in_err-judge c =
    let whole = let same = passed_on _ _ c.from_residual.ensures.1 in
    kept _ _ _ c.if-tables-lt-TABLES.false c.if-terms-lt-TERMS.false _ _ _ (same ∙ c.in_err-judge.ensures) same in record { value = whole.0; tables_after = whole.1.0; terms_after = whole.1.1 }

pub invariant_of-lawful : goal.invariant_of-lawful
invariant_of-lawful c = record { accepts = accepts _ c.in_ok-judge.ensures }

-- What stands in the two tables before the order is built.
pub derive-requires : goal.derive-requires
derive-requires c =
    let accepted = accepts _ (c.in_ok-judge.ensures) in
    order_ready _ (lawful_file _ _ accepted) _ _ c.if-tables-lt-TABLES.false c.fill_tables.ensures c.fill_terms.ensures

pub returns : goal.returns
returns c =
    let accepted = accepts _ (c.in_ok-judge.ensures) in
    let tables = order_left _ (lawful_file _ _ accepted) _ _ c.if-tables-lt-TABLES.false c.fill_tables.ensures c.fill_terms.ensures c.derive.ensures in
    let whole = filled _ _ _ c.if-tables-lt-TABLES.false c.if-terms-lt-TERMS.false _ _ accepted tables c.fill_terms.ensures in record { value = whole.0; tables_after = whole.1.0; terms_after = whole.1.1 }

pub returns-then-tables-lt-TABLES : goal.returns-then-tables-lt-TABLES
returns-then-tables-lt-TABLES c =
    elim c.then-tables-lt-TABLES.branch [
      | then-tables-lt-TABLES-via-then-tables-lt-TABLES w ↦
          let whole = small_tables _ _ _ w.if-tables-lt-TABLES.true in record { value = whole.0; tables_after = whole.1.0; terms_after = whole.1.1 }
      | then-tables-lt-TABLES-via-else-tables-lt-TABLES+then-terms-lt-TERMS w ↦
          let whole = small_terms_lem _ _ _ w.if-terms-lt-TERMS.true in record { value = whole.0; tables_after = whole.1.0; terms_after = whole.1.1 }
    ]
