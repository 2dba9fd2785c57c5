-- `recount_rule` meets its contract: the state read tells P and whether the rule holds.
-- Assumes nothing.
use borrow.Author.Rules.{rules}
use native.Mathlib.Omega.{arith}
use Rattle.recount.proofs.Laid.{rules_few}
use Rattle.recount.proofs.Keeping.{tally_wrote}
use Rattle.recount.proofs.Recounting.{rule_counted}
use Rattle.recount.proofs.lent.Lent.recount_rule.Goals as goal

pub write_word-requires : goal.write_word-requires
write_word-requires c = omega (arith, rules_few _ _ c.args.self.now.plan.laid, c.requires.0, c.requires.1)

pub returns : goal.returns
returns c =
    let few = rules_few _ _ c.args.self.now.plan.laid in
    let w = tally_wrote c.args.r c.state-s.result.p _ _ (omega (arith, few, c.requires.1)) (search rules) c.requires.0 c.write_word.ensures in
    rule_counted _ _ _ _ _ c.requires.1 c.state-s.ensures c.args.self.now.plan.laid _ _ _ c.holds.ensures w
