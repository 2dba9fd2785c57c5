-- `Whole::put_locks` meets its contract: the locks, one after another. The invariant: what is left makes the whole.
-- Assumes nothing.
use Rattle.words.specs.Words.{word_at}
use Rattle.constraints.specs.Bytes.{lines_bytes}
use Rattle.clauselines.proofs.Looping.{Looping}
use Rattle.opbtext.specs.Parts.{locks}
use Rattle.opbtext.proofs.Parts.{lock_rest}
use Rattle.opbtext.proofs.lent.Whole.put_locks.Given as goal

abbrev pub invariant-loop-i : goal.invariant-loop-i
invariant-loop-i l =
    let n = word_at l.self.tables.now 0 in
    Looping (lines_bytes (locks l.self)) (lock_rest l.self.tables.now n) n l.at l.initial.out l.i l.next l.out
