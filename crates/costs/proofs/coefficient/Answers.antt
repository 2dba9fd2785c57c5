-- `coefficient` meets its contract: variable i + 1's word is word 4 + i.
-- Assumes nothing.
use mir.Syntax.{w64}
use mir.Syntax.{w32}
use mathlib.Core.Path.{◌∙◌}
use mir.Facts.{to_z-of_z}
use Rattle.words.specs.Words.{word_at}
use Rattle.costs.specs.Sums.{weight_at}
use Rattle.costs.proofs.coefficient.Goals as goal

pub returns : goal.returns
unfolding weight_at word_at
returns c =
    to_z-of_z {w = w64} (record { sfits = c.from.type_inv })
    ∙ c.from.ensures
    ∙ to_z-of_z {w = w32} (record { sfits = c.read_i32.type_inv })
    ∙ c.read_i32.ensures
