-- `entries_good` meets its contract. The invariant: what is left decides.
-- Assumes nothing.
use Prim.Native.Nat.{◌-◌, ◌≤◌}
use mathlib.Core.Path.{◌≡◌}
use Rattle.words.specs.Words.{word_at}
use Rattle.format.specs.Good.{entries_from}
use Rattle.ordered.proofs.Base.entries_good.Given as goal

abbrev pub invariant-loop-k : goal.invariant-loop-k
invariant-loop-k l =
    (l.k ≤ l.to) × (entries_from (word_at l.self.tables.now) (word_at l.self.terms.now) l.x l.least l.k (l.to - l.k) ≡ entries_from (word_at l.self.tables.now) (word_at l.self.terms.now) l.x 0 l.from (l.to - l.from))
