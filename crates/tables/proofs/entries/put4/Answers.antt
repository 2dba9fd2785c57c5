-- `tables::entries::put4` meets its contract: two words, and two behind them.
-- Assumes nothing.
use mathlib.Core.Path.{refl, ◌∙◌}
use mathlib.Core.List.{[], ◌∷◌}
use Rattle.words.proofs.Writes.{first_words, words_behind}
use Rattle.tables.proofs.entries.put4.Goals as goal

pub returns : goal.returns
returns c =
    let x = c.args in
    words_behind x.out.now (x.a ∷ x.b ∷ []) (x.c ∷ x.d ∷ []) 2 (c.write_two.ensures ∙ first_words _ _) refl c.write_two-2.ensures
