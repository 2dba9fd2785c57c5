-- `absorbed` meets its contract by absorption: m · C(m − 1, k − 1) = k · C(m, k).
-- Assumes nothing.
use Prim.Native.Nat.{ℕ, zero, suc, ◌-◌, ◌*◌, ◌/◌, ◌<◌}
use native.Mathlib.Omega.{arith}
use mathlib.Core.Path.{◌≡◌}
use Rattle.plpb.specs.Equations.{binom}
use Rattle.plpb.proofs.Binomial.{absorb_quotient}
use Rattle.counting.proofs.binomial.absorbed.Goals as goal

from_before : (e m k : ℕ) → 0 < m → 0 < k → e ≡ binom (m - 1) (k - 1) → e * m / k ≡ binom m k
from_before e zero k p q h = omega arith
from_before e (suc m) zero p q h = omega arith
from_before e (suc m) (suc k) p q h =
    let less : suc m - 1 ≡ m = omega arith in
    let less' : suc k - 1 ≡ k = omega arith in
    rw h (rw (less, less') (absorb_quotient m k))

pub returns : goal.returns
returns c = from_before _ _ _ c.requires.1 c.requires.2 c.requires.4
