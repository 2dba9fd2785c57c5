-- `calls::open::open` meets its contract: it is refused as its tests say, or all that the core needs has been tested. Assumes nothing.
use mathlib.Core.Path.{sym, ◌∙◌}
use Rattle.tallies.proofs.Refusals.{opens, tallies_room}
use Rattle.recount.proofs.Callers.{opens_ready}
use Rattle.calls.proofs.Opening.{some_number}
use Rattle.calls.proofs.Accepting.{open_refused, open_accepted}
use Rattle.calls.proofs.open.open.Goals as goal

pub open_core-requires : goal.open_core-requires
open_core-requires c =
    let e = c.in-Ok.ensures in
    let o = opens _ (sym e.number) in
    rw (e.handed.0, e.handed.1) ((opens_ready _ o).bytes, tallies_room _ o)

pub returns-in-Err-clause-tallies_after : goal.returns-in-Err-clause-tallies_after
returns-in-Err-clause-tallies_after c = open_refused _ _ c.in-Err.ensures.number (some_number c.in-Err.refusal)

pub returns-clause-tallies_after : goal.returns-clause-tallies_after
returns-clause-tallies_after c =
    let e = c.in-Ok.ensures in
    (rw (e.handed.0, e.handed.1) at c.open_core.ensures) ∙ open_accepted _ (sym e.number)
