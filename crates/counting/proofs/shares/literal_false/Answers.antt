-- `literal_false` meets its contract: the last case of (10) to (12), from capped differences and binomials.
-- Assumes nothing.
use mathlib.Core.Path.{◌∙◌}
use Rattle.plpb.proofs.Capped.{sum_of}
use Rattle.counting.proofs.Joining.{from_smaller}
use Rattle.counting.proofs.shares.literal_false.Goals as goal

pub returns : goal.returns
returns c = record { e = c.over_difference-e.ensures; f = from_smaller _ _ _ c.requires.1 c.over_difference-f.ensures; g = c.add-g.ensures ∙ sum_of _ _ c.over.ensures c.over-2.ensures }
