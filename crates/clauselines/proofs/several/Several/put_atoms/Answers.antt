-- The goals that the search leaves.
use native.Mathlib.Numerals.{add-one}
use Rattle.clauselines.proofs.Looping.{looping_room, looping_more, looping_done}
use Rattle.clauselines.proofs.Rules.{atom_pieces}
use Rattle.clauselines.proofs.several.Several.put_atoms.Goals as goal

pub put_term-next-requires : goal.put_term-next-requires
put_term-next-requires c = looping_room (atom_pieces _ _) c.loop-i.invariant c.loop-i-test.true c.requires

pub loop-i-preserved : goal.loop-i-preserved
loop-i-preserved c = rw (add-one c.loop-i.i) (looping_more (atom_pieces _ _) c.loop-i.invariant c.loop-i-test.true c.put_term-next.ensures)

pub returns : goal.returns
returns c = looping_done (atom_pieces _ _) c.loop-i.invariant c.loop-i-test.false
