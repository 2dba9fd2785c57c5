-- `follow` meets its contract. The invariant: the places before k are passed. The measure is what is left.
-- Assumes nothing.
use Prim.Native.Nat.{◌-◌, ◌≤◌}
use Rattle.words.specs.Words.{word_at}
use Rattle.words.proofs.Words.{Below}
use Rattle.format.specs.Layout.{end_at}
use Rattle.keeping.proofs.Keeping.{Keeping}
use Rattle.keeping.proofs.follow.Given as goal

abbrev pub invariant-loop-k : goal.invariant-loop-k
invariant-loop-k l =
    (word_at l.lent.plan.tables.now (end_at (l.x - 1)) ≤ l.k) × (l.k ≤ l.k-end) × Keeping l.lent.plan.tables.now l.lent.plan.terms.now l.lent.bits.now l.initial.tallies l.x (l.k - word_at l.lent.plan.tables.now (end_at (l.x - 1))) l.tallies × Below 256 l.tallies
