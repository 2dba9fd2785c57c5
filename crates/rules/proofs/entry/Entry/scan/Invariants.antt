-- `scan` meets its contract. The invariant: the sums are those of the terms from `k` on, and what is kept of the weights is a word.
-- Assumes nothing.
use Prim.Native.Nat.{◌+◌, ◌-◌, ◌<◌}
use Rattle.words.specs.Words.{word_at}
use Rattle.rules.specs.Terms.{bits_in, terms_at}
use Rattle.rules.specs.Sums.{Summed, held_in}
use Rattle.rules.proofs.entry.Entry.scan.Given as goal

abbrev pub invariant-loop-k : goal.invariant-loop-k
invariant-loop-k l = Summed (bits_in l.assignment) (terms_at (word_at l.terms) (l.self.first + l.k) (l.self.count - l.k)) (held_in l.running)
    × (l.running.weights < 4_294_967_296)
