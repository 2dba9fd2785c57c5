-- `words::to_signed` meets its contract: the word is the number's bits.
-- Assumes nothing.
use mathlib.Core.Path.{◌∙◌}
use mir.Facts.{to_z-of_z}
use mir.Syntax.{w32}
use Rattle.words.proofs.Signs.{signed_bits}
use Rattle.words.proofs.to_signed.Goals as goal

pub returns : goal.returns
returns c = to_z-of_z {w = w32} (record { sfits = c.cast_signed.type_inv }) ∙ c.cast_signed.ensures ∙ signed_bits c.args.n
