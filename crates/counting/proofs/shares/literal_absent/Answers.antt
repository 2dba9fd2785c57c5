-- `literal_absent` meets its contract: case 1 of (10) to (12), g from the capped binomials of the two bounds.
-- Assumes nothing.
use mathlib.Core.Path.{sym, ◌∙◌}
use Rattle.plpb.proofs.Capped.{capped_zero, sum_of}
use Rattle.counting.proofs.shares.literal_absent.Goals as goal

pub returns : goal.returns
returns c = record { e = sym capped_zero; f = sym capped_zero; g = c.add-g.ensures ∙ sum_of _ _ c.over.ensures c.over-2.ensures }
