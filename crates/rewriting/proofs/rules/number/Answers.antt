-- `rules::number` meets its contract.
-- Assumes nothing.
use mathlib.Core.Path.{ap, ◌∙◌}
use mir.Facts.{to_z-of_z}
use mir.Syntax.{w32}
use Rattle.words.specs.Words.{unsigned}
use Rattle.rewriting.proofs.Rulewise.{bound_written}
use Rattle.rewriting.proofs.rules.number.Goals as goal

pub returns : goal.returns
returns c =
    c.to_unsigned.ensures
    ∙ ap unsigned (to_z-of_z {w = w32} (record { sfits = c.unwrap_or.type_inv }) ∙ c.unwrap_or.ensures ∙ bound_written c.args.bound)
