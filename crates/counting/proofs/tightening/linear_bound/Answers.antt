-- `linear_bound` meets its contract: one less fits 64 bits.
-- Assumes nothing.
use native.Mathlib.Omega.{arith}
use lib.IntN.{negsuc}
use mir.Facts.{to_z-of_z}
use Rattle.plpb.specs.Search.{linear_bound}
use Rattle.counting.proofs.Signed.{small_fits, size_sum}
use Rattle.counting.proofs.tightening.linear_bound.Goals as goal

pub returns : goal.returns
unfolding linear_bound
returns c = rw (to_z-of_z c.ranges.cost) (to_z-of_z (small_fits _ (omega (arith, size_sum c.args.cost (negsuc 0)))))
