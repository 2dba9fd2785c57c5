-- `choice_refusal` meets its contract: each test answers what the definition asks next.
-- Assumes nothing.
use native.Mathlib.Omega.{arith}
use Rattle.settings.proofs.Refusing.{heuristic_15, chance_16, choice_0}
use Rattle.settings.proofs.choice_refusal.Goals as goal

pub returns-then-s-gt1 : goal.returns-then-s-gt1
returns-then-s-gt1 c = heuristic_15 _ (omega arith)

pub returns-then-s-gt1000 : goal.returns-then-s-gt1000
returns-then-s-gt1000 c = chance_16 _ (omega arith) (omega arith)

pub returns : goal.returns
returns c = choice_0 _ (omega arith) (omega arith)
