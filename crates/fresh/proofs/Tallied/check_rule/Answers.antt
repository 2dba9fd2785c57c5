-- `check_rule` meets its contract: the state read tells the word that is wanted and whether the rule holds.
-- Assumes nothing.
use native.Mathlib.Omega.{arith}
use Rattle.recount.proofs.Laid.{rules_few}
use Rattle.fresh.proofs.Testing.{found}
use Rattle.fresh.proofs.Tallied.check_rule.Goals as goal

pub word-requires : goal.word-requires
word-requires c =
    omega (arith, rules_few _ _ c.args.self.now.lent.plan.laid, c.args.self.now.room, c.requires)

pub returns : goal.returns
returns c =
    found _ _ _ _ c.args.self.now.lent.plan.laid _ _ c.requires c.state-s.ensures _ c.word.ensures _ c.then_some.ensures c.holds.ensures
