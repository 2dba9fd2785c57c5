-- `tokens::with_digit` meets its contract: from 400,000,000 on a digit more is past the most.
-- Assumes nothing.
use native.Mathlib.Omega.{arith}
use mathlib.Core.Path.{sym}
use Rattle.tokens.proofs.Numbers.{seen_small, seen_large}
use Rattle.tokens.proofs.with_digit.Goals as goal

pub returns-then-full : goal.returns-then-full
returns-then-full c = sym (seen_large _ (omega arith))

pub returns-else-full : goal.returns-else-full
returns-else-full c = rw c.from.ensures (sym (seen_small _ (omega arith)))
