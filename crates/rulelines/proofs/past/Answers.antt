-- `rulelines::past` meets its contract, by the side.
-- Assumes nothing.
use mathlib.Core.Path.{ap, ◌∙◌}
use lib.IntN.{pos, ◌+ℤ◌, ◌-ℤ◌}
use mir.Facts.{to_z-of_z}
use mir.Syntax.{w32}
use Rattle.rulelines.specs.Rules.{past_of}
use Rattle.rulelines.proofs.past.Goals as goal

pub returns-in-AtLeast : goal.returns-in-AtLeast
unfolding past_of
returns-in-AtLeast c =
    rw c.in-AtLeast.is (to_z-of_z {w = w32} (record { sfits = c.minus.type_inv }) ∙ c.minus.ensures ∙ ap (λ z. z -ℤ pos 1) (to_z-of_z c.ranges.bound))

pub returns-in-AtMost : goal.returns-in-AtMost
unfolding past_of
returns-in-AtMost c =
    rw c.in-AtMost.is (to_z-of_z {w = w32} (record { sfits = c.plus.type_inv }) ∙ c.plus.ensures ∙ ap (λ z. z +ℤ pos 1) (to_z-of_z c.ranges.bound))
