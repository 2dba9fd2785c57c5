-- `loaded::Counted::locks_good` meets its contract: its section passes the test of a lock.
-- Assumes nothing.
use Prim.Native.Nat.{ℕ}
use lib.Dec.{leb}
use Rattle.format.specs.Good.{locks_good, lock_good}
use Rattle.loaded.proofs.Counted.locks_good.Goals as goal

pub returns : goal.returns
unfolding locks_good lock_good
returns c = rw (← c.args.self.counts.0) (c.section_good.ensures (λ (w : ℕ). leb w 2) (λ w r p. p))
