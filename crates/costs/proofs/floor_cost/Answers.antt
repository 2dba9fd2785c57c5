-- `floor_cost` meets its contract: what the variables cost at least, summed up.
-- Assumes nothing.
use native.Mathlib.Omega.{arith}
use mathlib.Core.Path.{sym, ap, ◌∙◌}
use mir.Facts.{to_z-of_z}
use mir.Syntax.{w64}
use Rattle.costs.specs.Sums.{least_at, sum_from}
use Rattle.costs.proofs.Coefficients.{least_small, floor_summed}
use Rattle.costs.proofs.floor_cost.Goals as goal

pub total-requires-clause-small : goal.total-requires-clause-small
total-requires-clause-small c = λ i r l p. rw p (least_small _ i (c.requires.small i (omega (arith, l, c.index.ensures))))

pub returns : goal.returns
returns c =
    let part = least_at c.args.tables.now in
    to_z-of_z {w = w64} (record { sfits = c.total.type_inv })
    ∙ c.total.ensures part (λ i r l p. p)
    ∙ ap (sum_from part 0) c.index.ensures
    ∙ sym (floor_summed _)
