-- `Whole::put_coefficients` meets its contract: the terms, one after another. The invariant: what is left makes the whole.
-- Assumes nothing.
use Rattle.words.specs.Words.{word_at}
use Rattle.constraints.specs.Bytes.{sum_bytes}
use Rattle.clauselines.proofs.Looping.{Looping}
use Rattle.opbtext.specs.Parts.{coefficients}
use Rattle.opbtext.proofs.Parts.{dense_rest}
use Rattle.opbtext.proofs.lent.Whole.put_coefficients.Given as goal

abbrev pub invariant-loop-i : goal.invariant-loop-i
invariant-loop-i l =
    let n = word_at l.self.tables.now 0 in
    Looping (sum_bytes (coefficients l.self)) (dense_rest l.self.tables.now n) n l.at l.initial.out l.i l.next l.out
