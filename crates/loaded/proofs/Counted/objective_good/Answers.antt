-- `loaded::Counted::objective_good` meets its contract: its section passes the test of a coefficient.
-- Assumes nothing.
use Prim.Native.Nat.{ℕ}
use lib.Dec.{leb}
use lib.IntN.{nat_abs}
use Rattle.words.specs.Words.{signed}
use Rattle.format.specs.Limits.{max_weight}
use Rattle.format.specs.Good.{objective_good, coefficient_good}
use Rattle.loaded.proofs.Counted.objective_good.Goals as goal

pub returns : goal.returns
unfolding objective_good coefficient_good
returns c = rw (← c.args.self.counts.0) (c.section_good.ensures (λ (w : ℕ). leb (nat_abs (signed w)) max_weight) (λ w r p. p))
