-- `pass_blocks` meets its contract. The invariant: the word that is sought stays the same. The measure is how many words are left.
-- Assumes nothing.
use Prim.Native.Nat.{◌-◌, ◌≤◌}
use mathlib.Core.Path.{◌≡◌}
use Rattle.numbers.specs.Finding.{rank}
use Rattle.numbers.proofs.pass_blocks.Given as goal

abbrev pub invariant-loop-place : goal.invariant-loop-place
invariant-loop-place l = (l.place.at ≤ l.count) × (rank l.table l.base l.place ≡ rank l.table l.base l.fn.from)

abbrev pub decreases-loop-place : goal.decreases-loop-place
decreases-loop-place l = l.count - l.place.at
