-- `Sum::least` meets its contract: the total of what the closure gives.
-- Assumes nothing.
use mathlib.Core.Bool.{false}
use mir.Facts.{to_z-of_z}
use mir.Syntax.{w32}
use Rattle.std.proofs.Common.{rules}
use Rattle.extremes.specs.Terms.{extreme_of}
use Rattle.extremes.proofs.sum.Sum.least.Goals as goal

pub returns : goal.returns
unfolding extreme_of
returns c =
    let is = c.total.ensures false (λ w r h. search rules) in
    rw (to_z-of_z {w = w32} (record { sfits = c.total.type_inv })) is
