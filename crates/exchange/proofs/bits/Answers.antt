-- `exchange::bits` meets its contract, by the two signs.
-- Assumes nothing.
use native.Mathlib.Omega.{arith}
use mathlib.Core.Path.{◌≡◌, refl, ap, ◌∙◌}
use lib.IntN.{ℤ, pos, negsuc}
use mir.Syntax.{w64}
use mir.Val.{of_z}
use mir.Facts.{to_z-of_z}
use Rattle.exchange.specs.Exchange.{bits_of64}
use Rattle.exchange.proofs.bits.Goals as goal

bits_is : (v : ℤ) → of_z w64 v ≡ bits_of64 v
unfolding bits_of64
bits_is (pos n) = refl
bits_is (negsuc n) = omega arith

pub returns : goal.returns
returns c = c.cast_unsigned.ensures ∙ ap (of_z w64) (to_z-of_z c.ranges.v) ∙ bits_is c.args.v
