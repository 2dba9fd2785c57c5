-- The goals that the search leaves.
use borrow.Author.Rules.{rules}
use native.Mathlib.Omega.{arith}
use Rattle.recount.proofs.Laid.{run_readable, rules_inside, rules_few, clauses_few}
use Rattle.recount.proofs.Keeping.{tally_wrote}
use Rattle.recount.proofs.Recounting.{rules_start, rules_step, rules_end}
use Rattle.recount.proofs.lent.Lent.recount_clause.Goals as goal

pub rules_of-rules-requires : goal.rules_of-rules-requires
rules_of-rules-requires c = run_readable _ _ c.args.self.now.plan.laid _ c.requires.1

pub loop-r-init : goal.loop-r-init
loop-r-init c = rules_start _ _ _ _ _ _ _ c.rules_of-rules.ensures.0 c.rules_of-rules.ensures.1

pub recount_rule-requires : goal.recount_rule-requires
recount_rule-requires c =
    let d = c.loop-r.invariant in (
      omega (arith, c.requires.0, d.kept.size),
      omega (arith, c.loop-r-test.true, d.ends, rules_inside _ _ c.args.self.now.plan.laid _ c.requires.1),
    )

pub overflow_add-holding : goal.overflow_add-holding
overflow_add-holding c =
    let d = c.loop-r.invariant in
    let l = c.args.self.now.plan.laid in
    omega (arith, d.few, d.high, d.ends, c.bit-holding.ensures.1, rules_inside _ _ l _ c.requires.1, rules_few _ _ l)

pub loop-r-preserved : goal.loop-r-preserved
loop-r-preserved c =
    rules_step _ _ _ _ _ _ _ _ _ c.loop-r.invariant _ _ _ c.loop-r-test.true c.recount_rule.ensures c.bit-holding.ensures.0

pub overflow_add-c : goal.overflow_add-c
overflow_add-c c =
    omega (arith, clauses_few _ _ c.args.self.now.plan.laid)

pub write_word-requires : goal.write_word-requires
write_word-requires c =
    omega (arith, clauses_few _ _ c.args.self.now.plan.laid, c.requires.0, c.requires.1, c.loop-r.invariant.kept.size)

pub returns : goal.returns
returns c =
    let d = c.loop-r.invariant in
    let few = clauses_few _ _ c.args.self.now.plan.laid in
    let w = tally_wrote _ c.loop-r.holding _ _ (omega (arith, few, c.requires.1)) (search rules) (omega (arith, c.requires.0, d.kept.size)) c.write_word.ensures in
    rules_end _ _ _ _ _ _ _ _ _ d c.args.self.now.plan.laid c.requires.1 _ c.loop-r-test.false w
