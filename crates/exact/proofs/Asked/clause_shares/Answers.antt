-- The goals that the search leaves.
use native.Mathlib.Omega.{arith}
use mathlib.Core.Path.{refl}
use Rattle.counting.specs.Shares.{start_shares}
use Rattle.recount.proofs.Laid.{run_readable, rules_inside}
use Rattle.exact.proofs.Summing.{shares_start, shares_step, shares_settled, shares_end}
use Rattle.exact.proofs.Asked.clause_shares.Goals as goal

pub rules_of-rules-requires : goal.rules_of-rules-requires
rules_of-rules-requires c = run_readable _ _ c.args.self.now.lent.plan.laid _ c.requires

pub loop-r-init : goal.loop-r-init
unfolding start_shares
loop-r-init c = shares_start _ _ _ _ _ _ _ _ c.rules_of-rules.ensures.0 c.rules_of-rules.ensures.1 refl

pub join_rule-shares-requires : goal.join_rule-shares-requires
join_rule-shares-requires c =
    omega (arith, c.loop-r-test.true, c.loop-r.invariant.ends, rules_inside _ _ c.args.self.now.lent.plan.laid _ c.requires)

pub loop-r-preserved : goal.loop-r-preserved
loop-r-preserved c = shares_step _ _ _ _ _ _ _ _ c.loop-r.invariant _ c.loop-r-test.true c.join_rule-shares.ensures

pub returns-then-settled : goal.returns-then-settled
returns-then-settled c =
    let next = shares_step _ _ _ _ _ _ _ _ c.loop-r.invariant _ c.loop-r-test.true c.join_rule-shares.ensures in
    shares_settled _ _ _ _ _ _ _ _ next c.settled.ensures c.if-settled.true

pub returns : goal.returns
returns c = shares_end _ _ _ _ _ _ _ _ c.loop-r.invariant c.loop-r-test.false
