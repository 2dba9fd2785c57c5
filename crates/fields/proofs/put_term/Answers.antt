-- `put_term` meets its contract: the variable, then the coefficient.
-- Assumes nothing.
use native.Mathlib.Omega.{arith}
use Rattle.words.specs.Words.{bytes_of}
use Rattle.words.proofs.Words.{length_bytes_of}
use Rattle.fields.proofs.Writing.{put_on}
use Rattle.fields.proofs.put_term.Goals as goal

pub returns : goal.returns
returns c =
    let a = c.args in
    put_on a.s.now a.at (bytes_of 2 a.variable) (bytes_of 4 a.weight) (omega (arith, length_bytes_of 2 a.variable, c.requires))
    c.write_u16.ensures
    (omega (arith, length_bytes_of 2 a.variable)) c.write_u32.ensures
