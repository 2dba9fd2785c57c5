-- `size_rule` meets its contract: the rule's state has its sizes, and N and P together are K.
-- Assumes nothing.
use native.Mathlib.Omega.{arith}
use Rattle.recount.proofs.Laid.{rules_few}
use Rattle.sizing.proofs.Sizing.{lower_fits, upper_fits, rule_sized}
use Rattle.sizing.proofs.size_rule.Goals as goal

pub size_word-requires : goal.size_word-requires
size_word-requires c =
    lower_fits c.args.lent.now.plan.tables.now c.args.lent.now.plan.terms.now c.args.r c.state-s.ensures c.args.lent.now.plan.laid c.requires.0

pub size_word-requires-2 : goal.size_word-requires-2
size_word-requires-2 c =
    upper_fits c.args.lent.now.plan.tables.now c.args.lent.now.plan.terms.now c.args.r c.state-s.ensures c.args.lent.now.plan.laid c.requires.0

pub put_sizes-requires : goal.put_sizes-requires
put_sizes-requires c =
    (omega (arith, c.requires.0, rules_few _ _ c.args.lent.now.plan.laid), c.requires.1)

pub returns : goal.returns
returns c =
    rule_sized c.args.lent.now.plan.tables.now c.args.lent.now.plan.terms.now c.args.r c.state-s.ensures c.size_word.ensures c.size_word-2.ensures c.put_sizes.ensures
