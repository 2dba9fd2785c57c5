-- `list` meets its contract: a locked variable is in no list.
-- Assumes nothing.
use native.Mathlib.Omega.{arith}
use Rattle.recount.proofs.Laid.{tables_long}
use Rattle.columns.proofs.Frames.{only_none}
use Rattle.listing.proofs.Listing.{variables_few, locked_listed, is_free}
use Rattle.listing.proofs.Variable.list.Goals as goal

pub overflow_add-self : goal.overflow_add-self
overflow_add-self c = omega (arith, c.args.self.now.high, variables_few c.args.self.now.plan.laid)

pub index-requires : goal.index-requires
index-requires c = omega (arith, c.args.self.now.high, variables_few c.args.self.now.plan.laid, tables_long _ _ c.args.self.now.plan.laid)

pub returns-then-index-gt0 : goal.returns-then-index-gt0
returns-then-index-gt0 c = let v = c.args.self.now in (locked_listed v.plan.laid v.low v.high c.index.ensures c.if-index-gt0.true c.requires, only_none _ _ _)

pub list_run-requires : goal.list_run-requires
list_run-requires c = let v = c.args.self.now in (is_free v.plan.laid v.low v.high c.index.ensures c.if-index-gt0.false, c.requires)
