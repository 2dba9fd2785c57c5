-- `find` meets its contract. The invariant: the place is that of x among the terms from `k` on.
-- Assumes nothing.
use Prim.Native.Nat.{◌+◌, ◌-◌}
use Rattle.words.specs.Words.{word_at}
use Rattle.rules.specs.Places.{Found}
use Rattle.rules.proofs.entry.Entry.find.Given as goal

abbrev pub invariant-loop-k : goal.invariant-loop-k
invariant-loop-k l = Found (word_at l.terms) (l.self.first + l.k) (l.self.count - l.k) l.x l.place
