-- `opb_fill::signed_word` meets its contract.
-- Assumes nothing.
use native.Mathlib.Omega.{arith}
use Rattle.opb_fill.proofs.Terms.{positive, negated}
use Rattle.opb_fill.proofs.signed_word.Goals as goal

pub returns-then-number : goal.returns-then-number
returns-then-number c = negated _ _ _ c.if-number.true (omega arith) c.wrapping_neg.type_inv c.wrapping_neg.ensures

pub returns-else-number : goal.returns-else-number
returns-else-number c = positive _ _ c.if-number.false
