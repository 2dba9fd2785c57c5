-- `flip_kept` meets its contract: the byte turned over turns over its bit, and what is kept follows along the run.
-- Assumes nothing.
use mathlib.Core.Path.{refl}
use Rattle.recount.proofs.Laid.{variables_word}
use Rattle.flips.proofs.Following.{turned_long, turned_here, follow_ready}
use Rattle.keeping.proofs.Keeping.{kept_at}
use Rattle.keeping.proofs.flip_kept.Goals as goal

pub of-requires : goal.of-requires
of-requires c = turned_long _ _ _ _ _ c.requires.flip c.turn.ensures (variables_word _ _ c.args.t.now.laid)

pub follow-requires : goal.follow-requires
follow-requires c =
    let k = c.requires in
    let e = c.of.ensures in
    rw (e.0, e.1) (record {
      follow = follow_ready _ _ _ _ _ k.flip c.turn.ensures (variables_word _ _ c.args.t.now.laid) refl;
      sized = k.sized;
      needed = k.needed;
      weighed = k.weighed;
    })

pub returns : goal.returns
returns c =
    let k = c.requires in
    let e = c.of.ensures in
    (c.turn.ensures, kept_at (turned_here _ _ _ _ _ k.flip c.turn.ensures (variables_word _ _ c.args.t.now.laid)) (rw (e.0, e.1) at c.follow.ensures))
