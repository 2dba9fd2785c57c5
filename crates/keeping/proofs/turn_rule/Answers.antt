-- `turn_rule` meets its contract: the rule as it is kept tells what P and the needs come to.
-- Assumes nothing.
use borrow.Author.Rules.{rules}
use native.Mathlib.Omega.{arith}
use Rattle.words.proofs.Words.{word_at_lt}
use Rattle.words.proofs.Writes.{word_wrote}
use Rattle.keeping.proofs.Turning.{turn_movable, rule_turned}
use Rattle.keeping.proofs.turn_rule.Goals as goal

pub moved-after-requires : goal.moved-after-requires
moved-after-requires c =
    turn_movable c.requires c.read_rule-before.ensures (word_at_lt _ _ (λ j. omega (arith, c.slice_known-1.given j)))

pub returns : goal.returns
returns c =
    let p = word_wrote c.args.r c.moved-after.result.p _ _ (search rules) (search rules) c.write_word.ensures in
    rule_turned c.requires c.read_rule-before.ensures c.moved-after.ensures p c.put_needs.ensures c.holds.ensures c.holds-2.ensures
