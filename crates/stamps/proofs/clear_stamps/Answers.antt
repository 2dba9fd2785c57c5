-- `clear_stamps` meets its contract: the part that is lent out comes back as zeros.
-- Assumes nothing.
use native.Mathlib.Omega.{arith}
use Rattle.format.specs.Layout.{mark_size}
use Rattle.stamps.specs.Stamps.{unstamped}
use Rattle.stamps.proofs.Stamping.{part_cleared}
use Rattle.stamps.proofs.clear_stamps.Goals as goal

pub returns : goal.returns
unfolding unstamped
returns c = part_cleared mark_size c.args.marks.now _ (omega arith) c.requires c.clear.ensures
