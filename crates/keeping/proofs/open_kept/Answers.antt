-- `open_kept` meets its contract: the tallies are counted anew, and the needs are filled behind them.
-- Assumes nothing.
use Rattle.keeping.proofs.Opening.{opened_sized, opened_weighable, opened_kept}
use Rattle.keeping.proofs.open_kept.Goals as goal

pub fill_needs-requires : goal.fill_needs-requires
fill_needs-requires c =
    let k = c.requires in
    let e = c.open_core.ensures in
    (opened_sized _ c.args.t.now.laid k.1 e, opened_weighable _ c.args.t.now.laid k.1 e)

pub returns : goal.returns
returns c =
    let f = c.fill_needs.ensures in
    let k = c.requires in
    opened_kept _ c.args.t.now.laid k.1 c.open_core.ensures f.0 f.1 f.2
