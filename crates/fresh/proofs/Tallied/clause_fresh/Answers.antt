-- The goals that the search leaves.
use native.Mathlib.Omega.{arith}
use Rattle.recount.proofs.Laid.{run_readable, rules_inside, rules_few, clauses_few}
use Rattle.recount.proofs.Recounting.{rules_start}
use Rattle.fresh.proofs.Testing.{check_step, check_end}
use Rattle.fresh.proofs.Tallied.clause_fresh.Goals as goal

pub rules_of-rules-requires : goal.rules_of-rules-requires
rules_of-rules-requires c = run_readable _ _ c.args.self.now.lent.plan.laid _ c.requires

pub loop-r-init : goal.loop-r-init
loop-r-init c = rules_start _ _ _ _ _ _ _ c.rules_of-rules.ensures.0 c.rules_of-rules.ensures.1

pub check_rule-requires : goal.check_rule-requires
check_rule-requires c =
    omega (arith, c.loop-r-test.true, c.loop-r.invariant.ends, rules_inside _ _ c.args.self.now.lent.plan.laid _ c.requires)

pub overflow_add-holding : goal.overflow_add-holding
overflow_add-holding c =
    let d = check_step _ _ _ _ _ _ _ _ c.loop-r.invariant _ _ _ c.loop-r-test.true c.check_rule.ensures c.in-Some.is c.bit-holding.ensures.0 in
    omega (arith, d.few, d.high, d.ends, rules_inside _ _ c.args.self.now.lent.plan.laid _ c.requires, rules_few _ _ c.args.self.now.lent.plan.laid)

pub loop-r-preserved : goal.loop-r-preserved
loop-r-preserved c =
    check_step _ _ _ _ _ _ _ _ c.loop-r.invariant _ _ _ c.loop-r-test.true c.check_rule.ensures c.in-Some.is c.bit-holding.ensures.0

pub overflow_add-c : goal.overflow_add-c
overflow_add-c c =
    omega (arith, clauses_few _ _ c.args.self.now.lent.plan.laid, c.requires)

pub word-requires : goal.word-requires
word-requires c =
    omega (arith, clauses_few _ _ c.args.self.now.lent.plan.laid, c.args.self.now.room, c.requires)

pub returns : goal.returns
returns c =
    check_end _ _ _ _ _ _ _ _ c.loop-r.invariant c.args.self.now.lent.plan.laid c.requires _ c.loop-r-test.false c.word.ensures
