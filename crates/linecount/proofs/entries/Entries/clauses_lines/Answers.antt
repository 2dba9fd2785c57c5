-- The goals that the search leaves.
use Rattle.words.specs.Words.{word_at}
use Rattle.linecount.proofs.Down.{down_start, down_more}
use Rattle.linecount.proofs.Lines.{ClausesAre, clauses_start, clauses_next}
use Rattle.linecount.proofs.entries.Entries.clauses_lines.Goals as goal

pub loop-c-init : goal.loop-c-init
loop-c-init c =
    rw c.index-c.ensures (down_start (ClausesAre (word_at c.args.self.now.tables.now) (word_at c.args.self.now.tables.now 1)) 7_169 (word_at c.args.self.now.tables.now 1) (clauses_start (word_at c.args.self.now.tables.now) (word_at c.args.self.now.tables.now 1)))

pub loop-c-preserved : goal.loop-c-preserved
loop-c-preserved c =
    let d = c.loop-c.invariant in
    let test = c.loop-c-test.true in
    let f = word_at c.args.self.now.tables.now in
    down_more (ClausesAre f (f 1)) 7_169 (f 1) d c.clause_lines-lines.result test c.clause_lines-lines.ensures.1
    (clauses_next f (f 1) test d.within c.clause_lines-lines.ensures.0 d.is)
