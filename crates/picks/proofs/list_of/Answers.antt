-- `list_of` meets its contract: the list stands behind the terms before the clause's, and its length beside it.
-- Assumes nothing.
use native.Mathlib.Omega.{arith}
use mathlib.Core.Path.{◌∙◌}
use Rattle.listing.proofs.Ahead.{clause_low}
use Rattle.picks.proofs.Noting.{list_inside}
use Rattle.picks.proofs.list_of.Goals as goal

pub overflow_add-start : goal.overflow_add-start
overflow_add-start c = omega (arith, c.terms_ahead-start.ensures, list_inside c.args.t.now.laid c.requires.0)

pub overflow_add-c : goal.overflow_add-c
overflow_add-c c = omega (arith, clause_low c.args.t.now.laid c.requires.0)

pub index-requires : goal.index-requires
index-requires c = omega (arith, clause_low c.args.t.now.laid c.requires.0, c.requires.1.room)

pub overflow_add-result : goal.overflow_add-result
overflow_add-result c = omega (arith, c.terms_ahead-start.ensures, c.index.ensures ∙ (c.requires.1.each _ c.requires.0).counted, list_inside c.args.t.now.laid c.requires.0)
