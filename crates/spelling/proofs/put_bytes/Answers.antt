-- The goals that the search leaves.
use Prim.Native.Nat.{suc}
use native.Mathlib.Numerals.{add-one}
use mathlib.Core.List.{[], ◌∷◌}
use lib.ListN.{drop, get_or, drop_of_length-le}
use lib.Seq.{drop-cons}
use Rattle.spelling.proofs.Puts.{left_more, left_done}
use Rattle.spelling.proofs.put_bytes.Goals as goal

pub loop-b-preserved : goal.loop-b-preserved
loop-b-preserved c =
    let loop = c.loop-b in
    let i = loop.b-index in
    let bytes = c.args.bytes.now in
    rw (add-one i) (left_more loop.invariant (get_or bytes i 0 ∷ []) (drop (suc i) bytes) (drop-cons bytes i 0 c.loop-b-test.true) c.put_byte-next.ensures)

pub returns : goal.returns
returns c = left_done c.loop-b.invariant (drop_of_length-le c.args.bytes.now c.loop-b-test.false)
