-- `Count::mul` meets its contract: the product of both numbers, capped, is that of where both counts stand.
-- Assumes nothing.
use mathlib.Core.Path.{sym, ◌∙◌}
use Rattle.plpb.proofs.Capped.{product_of}
use Rattle.counting.proofs.Marks.{stands, stopped, number_capped}
use Rattle.counting.proofs.count.CountMul.mul.Goals as goal

pub returns : goal.returns
returns c =
    stands c.saturating_mul.result
    ∙ stopped _ c.saturating_mul.ensures
    ∙ sym (product_of _ _ (number_capped c.args.self) (number_capped c.args.other))
