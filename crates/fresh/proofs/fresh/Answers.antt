-- `fresh` meets its contract: unused entries are 0, and then the clauses tell the rest.
-- Assumes nothing.
use native.Mathlib.Omega.{arith}
use Rattle.recount.proofs.Laid.{tables_long, variables_word, clauses_few}
use Rattle.fresh.proofs.Testing.{tested, rule_used, clause_used, both_unused}
use Rattle.fresh.proofs.fresh.Goals as goal

pub index-clauses-requires : goal.index-clauses-requires
index-clauses-requires c = omega (arith, tables_long _ _ c.args.t.now.laid)

pub index-rules-requires : goal.index-rules-requires
index-rules-requires c = omega (arith, tables_long _ _ c.args.t.now.laid)

pub returns-then-not-zeros : goal.returns-then-not-zeros
returns-then-not-zeros c =
    rule_used _ _ _ _ (record { laid = c.args.t.now.laid; bytes = c.requires.0 }) _ (variables_word _ _ c.args.t.now.laid) _ c.index-rules.ensures (c.zeros.ensures.not_so c.if-not-zeros.true)

pub overflow_add-clauses : goal.overflow_add-clauses
overflow_add-clauses c =
    omega (arith, c.index-clauses.ensures, clauses_few _ _ c.args.t.now.laid)

pub returns-then-not-zeros-2 : goal.returns-then-not-zeros-2
returns-then-not-zeros-2 c =
    clause_used _ _ _ _ (record { laid = c.args.t.now.laid; bytes = c.requires.0 }) _ (variables_word _ _ c.args.t.now.laid) _ c.index-clauses.ensures (c.zeros-2.ensures.not_so c.if-not-zeros-2.true)

pub clauses_fresh-requires : goal.clauses_fresh-requires
clauses_fresh-requires c =
    let e = c.of-lent.ensures in
    rw e.0
    (both_unused _ _ _ _ (record { laid = c.args.t.now.laid; bytes = c.requires.0 }) _ (variables_word _ _ c.args.t.now.laid) _ _ c.index-rules.ensures c.index-clauses.ensures
    (c.zeros.ensures.so c.if-not-zeros.false)
    (c.zeros-2.ensures.so c.if-not-zeros-2.false))

pub returns : goal.returns
returns c =
    let e = c.of-lent.ensures in
    tested _ _ _ c.args.tallies.now (record { laid = c.args.t.now.laid; bytes = c.requires.0 }) _ (variables_word _ _ c.args.t.now.laid) (rw (e.0, e.1) at c.clauses_fresh.ensures)
