-- `tables_small` meets its contract: the tables are tested one after another.
-- Assumes nothing.
use native.Mathlib.Omega.{arith}
use Rattle.lending.proofs.Tests.{small_tables, small_terms_lem, small_assignment}
use Rattle.lending.proofs.tables_small.Goals as goal

pub returns-then-tables-lt-TABLES : goal.returns-then-tables-lt-TABLES
returns-then-tables-lt-TABLES c = small_tables _ _ _ (omega arith)

pub returns-then-terms-lt-TERMS : goal.returns-then-terms-lt-TERMS
returns-then-terms-lt-TERMS c = small_terms_lem _ _ _ (omega arith) (omega arith)

pub returns : goal.returns
returns c = small_assignment _ _ _ (omega arith) (omega arith)
