-- `reported` meets its contract: what is in no row or in the table costs no factor.
-- Assumes nothing.
use native.Mathlib.Omega.{arith}
use Rattle.plpb.proofs.Factors.{factors_small, factors_outside}
use Rattle.counting.proofs.binomial.reported.Goals.{then-m-k-via-then-m-k, then-m-k-via-else-m-k+then-m-lt-ROWS}
use Rattle.counting.proofs.binomial.reported.Goals as goal

pub returns-then-m-k-clause-factors_value : goal.returns-then-m-k-clause-factors_value
returns-then-m-k-clause-factors_value c =
    elim c.then-m-k.branch [
      | then-m-k-via-then-m-k w ↦ factors_outside _ _ w.if-m-k.true
      | then-m-k-via-else-m-k+then-m-lt-ROWS w ↦ factors_small _ _ (omega (arith, w.if-m-lt-ROWS.true))
    ]
