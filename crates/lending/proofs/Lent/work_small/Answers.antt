-- `work_small` meets its contract: two tables more, after those that every call is lent.
-- Assumes nothing.
use native.Mathlib.Omega.{arith}
use Rattle.lending.proofs.Tests.{small_first, small_tallies, small_marks}
use Rattle.lending.proofs.Lent.work_small.Goals as goal

pub returns-then-tables_small : goal.returns-then-tables_small
returns-then-tables_small c = small_first _ _ _ c.tables_small.ensures c.if-tables_small.true

pub returns-then-self-lt-KEPT : goal.returns-then-self-lt-KEPT
returns-then-self-lt-KEPT c = small_tallies _ _ _ c.tables_small.ensures c.if-tables_small.false (omega arith)

pub returns : goal.returns
returns c = small_marks _ _ _ c.tables_small.ensures c.if-tables_small.false (omega arith)
