-- The goals that the search leaves.
use native.Mathlib.Numerals.{add-one}
use Rattle.constraints.proofs.Stored.{going_room, going_more, going_done}
use Rattle.constraints.proofs.put_terms.Goals as goal

pub put_stored-next-requires : goal.put_stored-next-requires
put_stored-next-requires c =
    let inv = c.loop-i.invariant in
    let test = c.loop-i-test.true in
    record { among = (inv.low, test); room = going_room _ _ _ _ _ _ inv test c.requires }

pub loop-i-preserved : goal.loop-i-preserved
loop-i-preserved c = rw (add-one c.loop-i.i) (going_more _ _ _ _ _ _ c.loop-i.invariant c.loop-i-test.true c.put_stored-next.ensures)

pub returns : goal.returns
returns c = going_done _ _ _ _ _ _ c.loop-i.invariant c.loop-i-test.false
