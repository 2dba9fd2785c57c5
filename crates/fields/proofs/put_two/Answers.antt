-- `put_two` meets its contract: one number behind the other.
-- Assumes nothing.
use native.Mathlib.Omega.{arith}
use Rattle.words.specs.Words.{bytes_of}
use Rattle.words.proofs.Words.{length_bytes_of}
use Rattle.fields.proofs.Writing.{put_on}
use Rattle.fields.proofs.put_two.Goals as goal

pub returns : goal.returns
returns c =
    let a = c.args in
    put_on a.s.now a.at (bytes_of 4 a.lower) (bytes_of 4 a.upper) (omega (arith, length_bytes_of 4 a.lower, c.requires)) c.write_u32.ensures
    (omega (arith, length_bytes_of 4 a.lower)) c.write_u32-2.ensures
