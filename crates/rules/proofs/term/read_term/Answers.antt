-- `read_term` meets its contract: a term is two words, and the second is signed.
-- Assumes nothing.
use mir.Syntax.{w32}
use mathlib.Core.Path.{◌∙◌, ap}
use mir.Facts.{to_z-of_z}
use Rattle.words.specs.Words.{signed}
use Rattle.format.specs.Tables.{term_of}
use Rattle.rules.proofs.Terms.{same_term}
use Rattle.rules.proofs.term.read_term.Goals as goal

pub returns : goal.returns
unfolding term_of
returns c =
    same_term c.word.ensures
    (to_z-of_z {w = w32} (record { sfits = c.to_signed.type_inv }) ∙ c.to_signed.ensures ∙ ap signed c.word-2.ensures)
