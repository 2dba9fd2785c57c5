-- `Count::add` meets its contract: the sum of both numbers, capped, is that of where both counts stand.
-- Assumes nothing.
use mathlib.Core.Path.{sym, ◌∙◌}
use Rattle.plpb.proofs.Capped.{sum_of}
use Rattle.counting.proofs.Marks.{stands, stopped, number_capped}
use Rattle.counting.proofs.count.CountAdd.add.Goals as goal

pub returns : goal.returns
returns c =
    stands c.saturating_add.result
    ∙ stopped _ c.saturating_add.ensures
    ∙ sym (sum_of _ _ (number_capped c.args.self) (number_capped c.args.other))
