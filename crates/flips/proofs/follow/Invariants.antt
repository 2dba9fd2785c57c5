-- `follow` meets its contract. The invariant: the places before k are passed. The measure is what is left.
-- Assumes nothing.
use Prim.Native.Nat.{◌-◌, ◌≤◌}
use Rattle.words.proofs.Words.{Below}
use Rattle.flips.specs.Passing.{Inside}
use Rattle.flips.proofs.Following.{Going}
use Rattle.flips.proofs.follow.Given as goal

abbrev pub invariant-loop-k : goal.invariant-loop-k
invariant-loop-k l = (l.run.start ≤ l.k) × (l.k ≤ l.run.end) × Going l.lent.plan.tables.now l.lent.plan.terms.now l.lent.bits.now l.x (l.k - l.run.start) l.tallies × Inside l.initial.tallies l.tallies × Below 256 l.tallies
