-- `Entries::variables` meets its contract: from the last clause to the first.
-- Assumes nothing.
use Rattle.words.specs.Words.{word_at}
use Rattle.linecount.proofs.Down.{Down}
use Rattle.linecount.proofs.Lines.{AtomsAre}
use Rattle.linecount.proofs.entries.Entries.variables.Given as goal

abbrev pub invariant-loop-c : goal.invariant-loop-c
invariant-loop-c l = Down (AtomsAre (word_at l.self.tables.now) (word_at l.self.tables.now 1)) 3_072 (word_at l.self.tables.now 1) l.c l.count
