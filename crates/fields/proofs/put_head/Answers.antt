-- `put_head` meets its contract: the tag, then the length.
-- Assumes nothing.
use native.Mathlib.Omega.{arith}
use mathlib.Core.List.{[], ◌∷◌}
use Rattle.words.specs.Words.{bytes_of}
use Rattle.fields.proofs.Writing.{put_on}
use Rattle.fields.proofs.put_head.Goals as goal

pub returns : goal.returns
returns c =
    let a = c.args in
    put_on a.s.now a.at (a.tag ∷ []) (bytes_of 2 a.size) (omega (arith, c.requires)) c.put_byte.ensures
    (omega arith) c.write_u16.ensures
