-- `rules::keep_clause` meets its contract, by whether all values meet one of the clause's rules.
-- Assumes nothing.
use native.Mathlib.Omega.{arith}
use Rattle.fates.proofs.Resting.{rest_room, rest_opened}
use Rattle.rewriting.proofs.Clausewise.{clause_dropped, clause_stays, opened}
use Rattle.rewriting.proofs.rules.keep_clause.Goals as goal

pub run_rules-run-requires : goal.run_rules-run-requires
run_rules-run-requires c =
    let pre = c.requires in
    (pre.0.0, pre.0.1, pre.0.2, rest_opened pre.0.3)

pub keep_rules-requires : goal.keep_rules-requires
keep_rules-requires c =
    let pre = c.requires in
    ((pre.0.0, pre.0.1, pre.0.2, opened _ _ _ pre.1 pre.0.3 c.put_head.ensures), omega (arith, pre.1))

pub overflow_add-at : goal.overflow_add-at
overflow_add-at c = omega (arith, rest_room c.requires.0.3)

pub returns-then-run : goal.returns-then-run
returns-then-run c = clause_dropped _ _ _ _ c.requires.1 _ _ _ c.run_rules-run.ensures c.if-run.true

pub put_head-requires : goal.put_head-requires
put_head-requires c = omega (arith, rest_room c.requires.0.3, c.requires.1)

pub overflow_add-at-2 : goal.overflow_add-at-2
overflow_add-at-2 c = omega (arith, rest_room c.requires.0.3)

pub overflow_add-to : goal.overflow_add-to
overflow_add-to c = omega (arith, rest_room c.requires.0.3, c.requires.1)

pub returns : goal.returns
returns c = clause_stays _ _ _ _ c.requires.1 _ _ _ _ _ _ c.run_rules-run.ensures c.if-run.false c.put_head.ensures c.keep_rules.ensures
