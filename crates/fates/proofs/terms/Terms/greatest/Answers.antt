-- `Terms::greatest` meets its contract: the total of what the closure gives.
-- Assumes nothing.
use mir.Facts.{to_z-of_z}
use mir.Syntax.{w32}
use Rattle.std.proofs.Common.{rules}
use Rattle.fates.specs.Sums.{Greatest}
use Rattle.fates.proofs.terms.Terms.greatest.Goals as goal

pub returns : goal.returns
returns c =
    let is = c.total.ensures Greatest (λ code w r h. search rules) in
    rw (to_z-of_z {w = w32} (record { sfits = c.total.type_inv })) is
