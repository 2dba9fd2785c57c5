-- The goals that the search leaves.
use Prim.Native.Nat.{◌-◌, ◌≤◌}
use native.Mathlib.Omega.{arith}
use Rattle.words.specs.Words.{word_at}
use Rattle.format.specs.Layout.{clause_count_at}
use Rattle.linecount.proofs.Down.{down_start, down_more}
use Rattle.linecount.proofs.Lines.{AtomsAre, atoms_start, atoms_next, atoms_small}
use Rattle.linecount.proofs.entries.Entries.variables.Goals.{After-index, After-new_atoms-count}
use Rattle.linecount.proofs.entries.Entries.variables.Goals as goal

pub loop-c-init : goal.loop-c-init
loop-c-init c =
    rw c.index-c.ensures (down_start (AtomsAre (word_at c.args.self.now.tables.now) (word_at c.args.self.now.tables.now 1)) 3_072 (word_at c.args.self.now.tables.now 1) (atoms_start (word_at c.args.self.now.tables.now) (word_at c.args.self.now.tables.now 1)))

module _ (c : After-new_atoms-count) where
  few : c.new_atoms-count.result ≤ 3_072
  few =
      let fit = c.args.self.now.fit.rules (c.loop-c.c - 1) (omega (arith, c.loop-c-test.true, c.loop-c.invariant.within)) in
      omega (arith, c.new_atoms-count.ensures, atoms_small (word_at c.args.self.now.tables.now (clause_count_at (c.loop-c.c - 1))) (omega (arith, fit)))

pub loop-c-preserved : goal.loop-c-preserved
loop-c-preserved c =
    let d = c.loop-c.invariant in
    let test = c.loop-c-test.true in
    let f = word_at c.args.self.now.tables.now in
    down_more (AtomsAre f (f 1)) 3_072 (f 1) d c.new_atoms-count.result test (few c) (atoms_next f (f 1) test d.within c.new_atoms-count.ensures d.is)

pub overflow_add-count : goal.overflow_add-count
overflow_add-count c = omega (arith, few c, c.loop-c.invariant.size, c.args.self.now.fit.clauses)
