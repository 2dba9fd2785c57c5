-- `put_bounds` meets its contract: the head, then the bounds.
-- Assumes nothing.
use native.Mathlib.Omega.{arith}
use mathlib.Core.List.{[], ◌∷◌, ◌++◌}
use lib.ListN.{length-append}
use Rattle.words.specs.Words.{bytes_of}
use Rattle.words.proofs.Words.{length_bytes_of}
use Rattle.fields.proofs.Writing.{put_on}
use Rattle.fields.proofs.put_bounds.Goals as goal

pub returns : goal.returns
returns c =
    let a = c.args in
    put_on a.s.now a.at (4 ∷ (bytes_of 2 a.size ++ (a.mode ∷ []))) (bytes_of 4 a.lower ++ bytes_of 4 a.upper) (omega (arith, length-append (bytes_of 2 a.size) (a.mode ∷ []), length_bytes_of 2 a.size, c.requires)) c.put_rule_head.ensures
    (omega (arith, length-append (bytes_of 2 a.size) (a.mode ∷ []), length_bytes_of 2 a.size)) c.put_two.ensures
