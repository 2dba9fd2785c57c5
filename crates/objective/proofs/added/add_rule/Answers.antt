-- `add_rule` meets its contract: two words, two and one, each behind the ones before.
-- Assumes nothing.
use native.Mathlib.Omega.{arith}
use Rattle.objective.proofs.WordWrites.{rule_written}
use Rattle.objective.proofs.added.add_rule.Goals as goal

-- The places behind each call, the last one first.
pub returns : goal.returns
returns c =
    rule_written c.args.tables.now c.args.rules 2 0 c.args.bound (omega (arith, c.requires)) c.narrow.ensures
    c.narrow-2.ensures c.write_two.ensures c.write_two-2.ensures c.write_word.ensures
