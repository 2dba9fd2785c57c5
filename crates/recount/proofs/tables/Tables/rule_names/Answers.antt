-- `rule_names` meets its contract: rule r has its entry at word 1,542 + 5·r.
-- Assumes nothing.
use native.Mathlib.Omega.{arith}
use Rattle.rules.proofs.Tables.{rule_at_lem}
use Rattle.recount.proofs.Laid.{rules_few, rule_inside}
use Rattle.recount.proofs.tables.Tables.rule_names.Goals as goal

pub overflow_mul-r : goal.overflow_mul-r
overflow_mul-r c = omega (arith, rules_few _ _ c.args.self.now.laid)

pub overflow_add-r : goal.overflow_add-r
overflow_add-r c = omega (arith, rules_few _ _ c.args.self.now.laid)

pub names-requires : goal.names-requires
names-requires c = rule_inside _ _ c.args.self.now.laid _ c.requires

pub returns : goal.returns
returns c = rw rule_at_lem at c.names.ensures
