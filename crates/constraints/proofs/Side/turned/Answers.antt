-- `Side::turned` meets its contract: 0 less a number is its negative.
-- Assumes nothing.
use mir.Syntax.{w32}
use mathlib.Core.Path.{◌∙◌, ap}
use lib.IntN.{pos, neg_ℤ, ◌-ℤ◌, +ℤ_idl}
use mir.Facts.{to_z-of_z}
use Rattle.constraints.specs.Bytes.{turned}
use Rattle.constraints.proofs.Side.turned.Goals as goal

pub returns-in-AtLeast : goal.returns-in-AtLeast
unfolding turned
returns-in-AtLeast c = rw c.in-AtLeast.is (to_z-of_z c.ranges.v)

pub returns-in-AtMost : goal.returns-in-AtMost
unfolding turned
returns-in-AtMost c =
    rw c.in-AtMost.is
    (to_z-of_z {w = w32} (record { sfits = c.minus.type_inv }) ∙ c.minus.ensures ∙ ap (λ z. pos 0 -ℤ z) (to_z-of_z c.ranges.v) ∙ +ℤ_idl (neg_ℤ c.args.v))
