-- `narrowed` meets its contract: case 1 of (10) and (12).
-- Assumes nothing.
use mathlib.Core.Path.{◌∙◌}
use Rattle.plpb.specs.Equations.{shares}
use Rattle.plpb.proofs.Capped.{sum_of}
use Rattle.rules.specs.State.{shares_from}
use Rattle.joining.proofs.Pairs.{joined_unnamed}
use Rattle.joining.proofs.Pair.narrowed.Goals as goal

pub returns : goal.returns
unfolding shares_from shares
returns c = rw c.requires.1 (joined_unnamed _ (c.add-g.ensures ∙ sum_of _ _ c.over.ensures c.over-2.ensures) c.mul.ensures c.mul-2.ensures)
