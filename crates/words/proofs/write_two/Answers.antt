-- `write_two` meets its contract: one word behind the other.
-- Assumes nothing.
use Prim.Native.Nat.{ℕ, ◌+◌}
use native.Mathlib.Omega.{arith}
use mathlib.Core.Path.{◌∙◌, ap}
use mathlib.Core.List.{List, [], ◌∷◌}
use Rattle.words.specs.Writes.{put_words}
use Rattle.words.proofs.Writes.{words_next}
use Rattle.words.proofs.write_two.Goals as goal

pub returns : goal.returns
returns c =
    let i = c.args.i in
    let b = c.args.b in
    c.write_word-2.ensures
    ∙ ap (λ (t : List ℕ). put_words (i + 1) (b ∷ []) t) c.write_word.ensures
    ∙ words_next i (c.args.a ∷ []) (b ∷ []) c.args.s.now (omega (arith, c.requires))
