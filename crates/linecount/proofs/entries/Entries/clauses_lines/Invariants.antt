-- `Entries::clauses_lines` meets its contract: from the last clause to the first.
-- Assumes nothing.
use Rattle.words.specs.Words.{word_at}
use Rattle.linecount.proofs.Down.{Down}
use Rattle.linecount.proofs.Lines.{ClausesAre}
use Rattle.linecount.proofs.entries.Entries.clauses_lines.Given as goal

abbrev pub invariant-loop-c : goal.invariant-loop-c
invariant-loop-c l = Down (ClausesAre (word_at l.self.tables.now) (word_at l.self.tables.now 1)) 7_169 (word_at l.self.tables.now 1) l.c l.lines
