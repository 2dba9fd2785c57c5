-- What a term gives to the greatest sum of the variables that go on.
-- Assumes nothing.
use mir.Syntax.{w32}
use mathlib.Core.Path.{ap, ◌∙◌}
use mir.Facts.{to_z-of_z}
use Rattle.squeezed.specs.Squeezed.{positive_part}
use Rattle.fates.specs.Sums.{part_of}
use Rattle.fates.proofs.terms.fn.Terms.greatest.total.Goals as goal

pub returns-in-Locked : goal.returns-in-Locked
unfolding part_of
returns-in-Locked c = rw c.in-Locked.is

pub returns-in-New : goal.returns-in-New
unfolding part_of
returns-in-New c =
    rw c.in-New.is
    (to_z-of_z {w = w32} (record { sfits = c.positive.type_inv }) ∙ c.positive.ensures ∙ ap positive_part (to_z-of_z c.ranges.weight))
