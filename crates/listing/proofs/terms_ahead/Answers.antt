-- `terms_ahead` meets its contract: the clause's first rule, and that rule's first term.
-- Assumes nothing.
use native.Mathlib.Omega.{arith}
use Rattle.recount.proofs.Laid.{tables_long}
use Rattle.listing.proofs.Ahead.{clause_low, first_word, ahead_word}
use Rattle.listing.proofs.terms_ahead.Goals as goal

pub overflow_mul-c : goal.overflow_mul-c
overflow_mul-c c = omega (arith, clause_low c.args.t.now.laid c.requires)

pub overflow_add-c : goal.overflow_add-c
overflow_add-c c = omega (arith, clause_low c.args.t.now.laid c.requires)

pub index-requires : goal.index-requires
index-requires c = omega (arith, clause_low c.args.t.now.laid c.requires, tables_long _ _ c.args.t.now.laid)

pub overflow_mul-index : goal.overflow_mul-index
overflow_mul-index c = omega (arith, first_word c.args.t.now.laid c.requires c.index.ensures)

pub overflow_add-index : goal.overflow_add-index
overflow_add-index c = omega (arith, first_word c.args.t.now.laid c.requires c.index.ensures)

pub index-requires-2 : goal.index-requires-2
index-requires-2 c = omega (arith, first_word c.args.t.now.laid c.requires c.index.ensures, tables_long _ _ c.args.t.now.laid)

pub returns : goal.returns
returns c = ahead_word c.args.t.now.laid c.requires c.index.ensures c.index-2.ensures
