-- `state` meets its contract: rule r has its entry at word 1,542 + 5·r.
-- Assumes nothing.
use native.Mathlib.Omega.{arith}
use Rattle.rules.proofs.Tables.{rule_at_lem}
use Rattle.recount.proofs.Laid.{rules_few, rule_ready}
use Rattle.recount.proofs.lent.Lent.state.Goals as goal

pub overflow_mul-r : goal.overflow_mul-r
overflow_mul-r c = omega (arith, rules_few _ _ c.args.self.now.plan.laid)

pub overflow_add-r : goal.overflow_add-r
overflow_add-r c = omega (arith, rules_few _ _ c.args.self.now.plan.laid)

pub read_state-requires : goal.read_state-requires
read_state-requires c = rule_ready _ _ _ (record { laid = c.args.self.now.plan.laid; bytes = c.args.self.now.bytes }) _ c.requires

pub returns : goal.returns
returns c = rw rule_at_lem at c.read_state.ensures
