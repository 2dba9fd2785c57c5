-- `linecount::rules_lines` meets its contract: from the last rule to the first.
-- Assumes nothing.
use Rattle.words.specs.Words.{word_at}
use Rattle.linecount.proofs.Down.{Down}
use Rattle.linecount.proofs.Lines.{RulesAre}
use Rattle.linecount.proofs.rules_lines.Given as goal

abbrev pub invariant-loop-i : goal.invariant-loop-i
invariant-loop-i l = Down (RulesAre (word_at l.tables) l.first l.count) 7 l.count l.i l.lines
