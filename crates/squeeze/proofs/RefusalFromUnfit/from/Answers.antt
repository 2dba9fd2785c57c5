-- `Refusal::from` meets its contract, by the fault.
-- Assumes nothing.
use mathlib.Core.Path.{refl}
use Rattle.squeeze.specs.Calls.{fault_number}
use Rattle.squeeze.proofs.RefusalFromUnfit.from.Goals as goal

pub returns-in-AllLocked : goal.returns-in-AllLocked
unfolding fault_number
returns-in-AllLocked c = rw c.in-AllLocked.is (refl, refl)

pub returns-in-ClauseLost : goal.returns-in-ClauseLost
unfolding fault_number
returns-in-ClauseLost c = rw c.in-ClauseLost.is (refl, refl)
