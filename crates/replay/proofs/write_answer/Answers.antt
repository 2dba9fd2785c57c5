-- `replay::write_answer` meets its contract: the refusal, the rules and two counts written one behind the other are the whole. Assumes nothing.
use native.Mathlib.Omega.{arith}
use mathlib.Core.List.{[], ◌∷◌, ◌++◌}
use mathlib.Core.Path.{refl, ap, ap₂, ◌∙◌}
use Rattle.words.specs.Words.{word_bytes}
use Rattle.words.specs.Writes.{put}
use Rattle.counting.specs.Count.{marked_words}
use Rattle.replay.proofs.Made.{one_word, next_words, part_written, words_whole}
use Rattle.replay.proofs.write_answer.Goals as goal

pub returns : goal.returns
returns c =
    let at = c.args in
    let out = at.out.now in
    let refusal = at.answer.refusal in
    let rules = at.answer.rules in
    let breaks = marked_words at.answer.breaks in
    let makes = marked_words at.answer.makes in
    part_written 16 24 makes _ c.write_count-2.ensures refl
    ∙ ap (put 16 (word_bytes makes))
    (part_written 8 16 breaks _ c.write_count.ensures refl
    ∙ ap (put 8 (word_bytes breaks))
    (c.write_u32-2.ensures
    ∙ ap₂ (put 4) (one_word rules) (c.write_u32.ensures ∙ ap (λ bs. put 0 bs out) (one_word refusal))
    ∙ next_words 0 (refusal ∷ []) (rules ∷ []) out (omega (arith, c.requires)))
    ∙ next_words 0 (refusal ∷ rules ∷ []) breaks out (omega (arith, c.requires)))
    ∙ next_words 0 (refusal ∷ rules ∷ breaks) makes out (omega (arith, c.requires))
    ∙ words_whole (refusal ∷ rules ∷ (breaks ++ makes)) out (omega (arith, c.requires))
