-- The goals that the search leaves.
use native.Mathlib.Numerals.{add-one}
use native.Mathlib.Omega.{arith}
use Rattle.clauselines.proofs.Looping.{looping_room, looping_more, looping_done}
use Rattle.opbtext.proofs.Parts.{lock_pieces}
use Rattle.opbtext.proofs.lent.Whole.put_locks.Goals as goal

pub put_locked-next-requires : goal.put_locked-next-requires
put_locked-next-requires c =
    record {
      few = omega (arith, c.loop-i-test.true, c.index-n.ensures);
      room = looping_room (lock_pieces c.args.self.now.tables.now _) c.loop-i.invariant (omega (arith, c.loop-i-test.true, c.index-n.ensures)) c.requires;
    }

pub loop-i-preserved : goal.loop-i-preserved
loop-i-preserved c =
    rw (add-one c.loop-i.i)
    (looping_more (lock_pieces c.args.self.now.tables.now _) c.loop-i.invariant (omega (arith, c.loop-i-test.true, c.index-n.ensures)) c.put_locked-next.ensures)

pub returns : goal.returns
returns c = looping_done (lock_pieces c.args.self.now.tables.now _) c.loop-i.invariant (omega (arith, c.loop-i-test.false, c.index-n.ensures))
