-- `words::to_unsigned` meets its contract: the word is the number's bits.
-- Assumes nothing.
use mathlib.Core.Path.{ap, ◌∙◌}
use mir.Facts.{to_z-of_z}
use mir.Syntax.{w32}
use mir.Val.{of_z}
use Rattle.words.proofs.Signs.{unsigned_bits}
use Rattle.words.proofs.to_unsigned.Goals as goal

pub returns : goal.returns
returns c = c.cast_unsigned.ensures ∙ ap (of_z w32) (to_z-of_z c.ranges.v) ∙ unsigned_bits c.args.v
