-- `is_negative_word` meets its contract: the number that the word stands for has the sign.
-- Assumes nothing.
use Prim.Native.Nat.{zero-le}
use mathlib.Core.Path.{◌≡◌, refl, ap, ◌∙◌}
use lib.IntN.{ℤ, pos, negsuc}
use borrow.Author.Tests.{le-ltb}
use mir.Syntax.{w32}
use mir.Facts.{to_z-of_z}
use Rattle.std.specs.Int as Int
use Rattle.plpb.specs.Normal.{is_negative}
use Rattle.places.proofs.is_negative_word.Goals as goal

sign : (z : ℤ) → Int.is_negative z ≡ is_negative z
unfolding is_negative
sign (pos n) = le-ltb n 0 zero-le
sign (negsuc n) = refl

pub returns : goal.returns
returns c =
    c.is_negative.ensures ∙ ap Int.is_negative (to_z-of_z {w = w32} (record { sfits = c.to_signed.type_inv }) ∙ c.to_signed.ensures) ∙ sign _
