-- `tables::entries::put5` meets its contract: four words, and one behind them.
-- Assumes nothing.
use mathlib.Core.Path.{refl}
use mathlib.Core.List.{[], ◌∷◌}
use Rattle.words.proofs.Writes.{words_behind}
use Rattle.tables.proofs.entries.put5.Goals as goal

pub returns : goal.returns
returns c =
    let x = c.args in
    words_behind x.out.now (x.a ∷ x.b ∷ x.c ∷ x.d ∷ []) (x.e ∷ []) 4 c.put4.ensures refl c.write_word.ensures
