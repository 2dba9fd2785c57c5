-- `open_core` meets its contract: cleared tallies have 0 in unused entries, and the recount does the rest.
-- Assumes nothing.
use Rattle.recount.proofs.Laid.{variables_word}
use Rattle.recount.proofs.Cores.{first_counted, cleared_room, cleared_unused, cleared_beyond}
use Rattle.recount.proofs.open.open_core.Goals as goal

pub recount-requires : goal.recount-requires
recount-requires c = (
  cleared_room c.args.tallies.now _ c.requires.1 c.clear.ensures,
  cleared_unused c.args.tallies.now _ c.requires.1 c.clear.ensures _,
)

pub returns : goal.returns
returns c =
    let l = c.args.t.now.laid in
    let e = c.of.ensures in
    first_counted _ _ _ (record { laid = l; bytes = c.requires.0 }) _ (variables_word _ _ l) c.args.tallies.now _ _ (cleared_beyond c.args.tallies.now _ c.requires.1 c.clear.ensures) (rw (e.0, e.1) at c.recount.ensures)
