-- `tabled_difference` meets its contract: both numbers are entries of the triangle, which are no more than the cap.
-- Assumes nothing.
use Prim.Native.Nat.{◌-◌}
use native.Mathlib.Omega.{arith}
use mathlib.Core.Path.{◌∙◌, ap₂}
use Rattle.plpb.specs.Count.{capped}
use Rattle.counting.proofs.Difference.{alone, ordered, word_exact}
use Rattle.counting.proofs.binomial.tabled_difference.Goals as goal

pub returns-then-m-k : goal.returns-then-m-k
returns-then-m-k c = c.from.ensures ∙ word_exact _ c.tabled-above.type_inv ∙ alone _ _ _ _ c.if-m-k.true c.tabled-above.ensures

pub overflow_sub-above : goal.overflow_sub-above
overflow_sub-above c = ordered _ _ _ _ _ c.tabled-above.ensures c.tabled.ensures

pub returns : goal.returns
returns c =
    c.from-2.ensures
    ∙ word_exact _ (omega (arith, c.tabled-above.type_inv))
    ∙ ap₂ (λ a b. capped (a - b)) c.tabled-above.ensures c.tabled.ensures
