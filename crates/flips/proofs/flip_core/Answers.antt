-- `flip_core` meets its contract: the byte turned over turns over its bit, and the tallies follow along the run.
-- Assumes nothing.
use mathlib.Core.Path.{refl}
use Rattle.recount.proofs.Laid.{variables_word}
use Rattle.flips.proofs.Following.{turned_long, follow_ready, flip_counted}
use Rattle.flips.proofs.flip_core.Goals as goal

pub of-requires : goal.of-requires
of-requires c = turned_long _ _ _ _ _ c.requires c.turn.ensures (variables_word _ _ c.args.t.now.laid)

pub follow-requires : goal.follow-requires
follow-requires c =
    let e = c.of.ensures in
    rw (e.0, e.1) (follow_ready _ _ _ _ _ c.requires c.turn.ensures (variables_word _ _ c.args.t.now.laid) refl)

pub returns : goal.returns
returns c =
    let e = c.of.ensures in
    let r = rw (e.0, e.1) at c.follow.ensures in
    (r.0, c.turn.ensures, flip_counted _ _ _ _ _ c.requires c.turn.ensures (variables_word _ _ c.args.t.now.laid) r.1)
