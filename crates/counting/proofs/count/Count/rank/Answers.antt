-- `Count::rank` meets its contract: all that is above the cap stands one above it.
-- Assumes nothing.
use native.Mathlib.Omega.{arith}
use mathlib.Core.Path.{sym, ◌∙◌}
use Rattle.plpb.specs.Count.{cap, capped}
use Rattle.counting.proofs.Marks.{number_capped}
use Rattle.counting.proofs.count.Count.rank.Goals as goal

pub returns : goal.returns
unfolding cap capped
returns c = (c.min.ensures ∙ sym (number_capped c.args.self), omega (arith, c.min.ensures))
