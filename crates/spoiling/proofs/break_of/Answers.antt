-- `break_of` meets its contract: a count that the last place shows to be cut is.
-- Assumes nothing.
use mathlib.Core.Path.{subst}
use Rattle.spoiling.specs.Along.{UpTo}
use Rattle.spoiling.proofs.break_of.Goals as goal

pub returns-then-cut_at_last : goal.returns-then-cut_at_last
returns-then-cut_at_last c = subst (λ n. UpTo c.args.limit n c.cut_up_to.result) (c.cut_at_last.ensures c.if-cut_at_last.true) c.cut_up_to.ensures
