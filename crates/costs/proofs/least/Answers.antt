-- `least` meets its contract: by the word of the variable's lock and its coefficient.
-- Assumes nothing.
use mir.Syntax.{w64}
use native.Mathlib.Omega.{arith}
use mathlib.Core.Path.{◌∙◌, ap₂}
use mir.Facts.{to_z-of_z}
use Rattle.costs.specs.Sums.{least_by, least_at}
use Rattle.costs.proofs.least.Goals as goal

pub overflow_add-i : goal.overflow_add-i
overflow_add-i c = omega (arith, c.requires.0)

pub word-requires : goal.word-requires
word-requires c = omega (arith, c.requires.0, c.requires.1)

pub coefficient-requires : goal.coefficient-requires
coefficient-requires c = omega (arith, c.requires.0, c.requires.1)

pub returns : goal.returns
unfolding least_at
returns c =
    to_z-of_z {w = w64} (record { sfits = c.least_by.type_inv })
    ∙ c.least_by.ensures
    ∙ ap₂ least_by c.word.ensures (to_z-of_z {w = w64} (record { sfits = c.coefficient.type_inv }) ∙ c.coefficient.ensures)
