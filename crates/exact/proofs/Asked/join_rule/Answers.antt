-- `join_rule` meets its contract: the state read tells the rule's shares.
-- Assumes nothing.
use native.Mathlib.Omega.{arith}
use Rattle.recount.proofs.Laid.{rules_few, rule_ready}
use Rattle.exact.proofs.Summing.{rule_joined}
use Rattle.exact.proofs.Asked.join_rule.Goals as goal

pub overflow_mul-r : goal.overflow_mul-r
overflow_mul-r c = omega (arith, rules_few _ _ c.args.self.now.lent.plan.laid)

pub overflow_add-r : goal.overflow_add-r
overflow_add-r c = omega (arith, rules_few _ _ c.args.self.now.lent.plan.laid)

pub read_state_from-s-requires : goal.read_state_from-s-requires
read_state_from-s-requires c = rule_ready _ _ _ (record { laid = c.args.self.now.lent.plan.laid; bytes = c.args.self.now.lent.bytes }) _ c.requires

pub returns : goal.returns
returns c = rule_joined _ _ _ _ _ _ _ c.read_state_from-s.ensures c.join.ensures
