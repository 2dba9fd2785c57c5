-- `loaded::Counted::falls` meets its contract. The invariant: what was counted so far, and the falls that are left, are all.
-- Assumes nothing.
use Prim.Native.Nat.{◌+◌, ◌-◌, ◌≤◌}
use mathlib.Core.Path.{◌≡◌}
use Rattle.words.specs.Words.{word_at}
use Rattle.loaded.specs.Falls.{falls}
use Rattle.loaded.proofs.Counted.falls.Given as goal

abbrev pub invariant-loop-i : goal.invariant-loop-i
invariant-loop-i l =
    (l.count ≤ l.i) × (l.count + falls (word_at l.self.terms.now) l.above l.i (l.self.total - l.i) ≡ falls (word_at l.self.terms.now) 0 0 l.self.total)
