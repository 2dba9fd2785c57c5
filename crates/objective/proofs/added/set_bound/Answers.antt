-- `set_bound` meets its contract: the last rule's upper bound is the last word of its entry.
-- Assumes nothing.
use Prim.Native.Nat.{ℕ}
use mathlib.Core.Path.{◌∙◌, ap, ap₂}
use mathlib.Core.List.{[], ◌∷◌}
use mir.Facts.{to_z-of_z}
use Rattle.words.specs.Words.{unsigned}
use Rattle.words.specs.Writes.{put_words}
use Rattle.objective.specs.Added.{rebound}
use Rattle.format.specs.Layout.{last_upper_at}
use Rattle.objective.proofs.added.set_bound.Goals as goal

pub returns : goal.returns
unfolding rebound
returns c =
    c.write_word.ensures
    ∙ ap₂ (λ (r b : ℕ). put_words (last_upper_at r) (b ∷ []) c.args.tables.now) c.index-rules.ensures
    (c.bound_word.ensures ∙ ap unsigned (to_z-of_z c.ranges.m))
