-- `count_wrong` meets its contract.
-- Assumes nothing.
use mathlib.Core.Bool.{not}
use mathlib.Core.Path.{ap}
use Rattle.bodies.proofs.Ranges.{between}
use Rattle.faults.proofs.count_wrong.Goals as goal

pub returns : goal.returns
returns c =
    let r = c.new.ensures in
    ap not (between _ r.start r.end r.exhausted c.contains.ensures.value)
