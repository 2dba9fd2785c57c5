-- `replay::write_count` meets its contract: two words written one behind the other are the whole. Assumes nothing.
use native.Mathlib.Omega.{arith}
use mathlib.Core.List.{[], ◌∷◌}
use mathlib.Core.Path.{ap, ap₂, ◌∙◌}
use Rattle.words.specs.Writes.{put}
use Rattle.replay.proofs.Made.{one_word, next_words, words_whole}
use Rattle.replay.proofs.write_count.Goals as goal

pub returns : goal.returns
returns c =
    let at = c.args in
    c.write_u32-2.ensures
    ∙ ap₂ (put 4) (one_word at.count.cut) (c.write_u32.ensures ∙ ap (λ bs. put 0 bs at.out.now) (one_word at.count.value))
    ∙ next_words 0 (at.count.value ∷ []) (at.count.cut ∷ []) at.out.now (omega (arith, c.requires))
    ∙ words_whole (at.count.value ∷ at.count.cut ∷ []) at.out.now (omega (arith, c.requires))
