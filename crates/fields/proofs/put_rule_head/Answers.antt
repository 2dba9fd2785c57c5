-- `put_rule_head` meets its contract: a field's head, then the mode.
-- Assumes nothing.
use native.Mathlib.Omega.{arith}
use mathlib.Core.List.{[], ◌∷◌}
use Rattle.words.specs.Words.{bytes_of}
use Rattle.words.proofs.Words.{length_bytes_of}
use Rattle.fields.proofs.Writing.{put_on}
use Rattle.fields.proofs.put_rule_head.Goals as goal

pub returns : goal.returns
returns c =
    let a = c.args in
    put_on a.s.now a.at (4 ∷ bytes_of 2 a.size) (a.mode ∷ []) (omega (arith, length_bytes_of 2 a.size, c.requires)) c.put_head.ensures
    (omega (arith, length_bytes_of 2 a.size)) c.put_byte.ensures
