-- `Several::put_rules` meets its contract: the rules, one after another. The invariant: what is left makes the whole.
-- Assumes nothing.
use Rattle.clauselines.proofs.Looping.{Looping}
use Rattle.words.specs.Words.{word_at}
use Rattle.constraints.specs.Bytes.{lines_bytes}
use Rattle.opb.specs.Tau.{rules_lines}
use Rattle.clauselines.specs.Several.{several}
use Rattle.clauselines.proofs.Rules.{rule_rest}
use Rattle.clauselines.proofs.several.Several.put_rules.Given as goal

abbrev pub invariant-loop-i : goal.invariant-loop-i
invariant-loop-i l =
    let s = l.self in
    Looping (lines_bytes (rules_lines s.before (several s))) (rule_rest (word_at s.tables.now) (word_at s.terms.now) s.first s.count s.before) s.count
    l.at l.initial.out l.i l.next l.out
