-- `cost` meets its contract: what the variables cost, summed up.
-- Assumes nothing.
use native.Mathlib.Omega.{arith}
use mathlib.Core.Path.{sym, ap, ◌∙◌}
use mir.Facts.{to_z-of_z}
use mir.Syntax.{w64}
use Rattle.costs.specs.Sums.{share_at, sum_from}
use Rattle.costs.proofs.Coefficients.{share_small, cost_summed}
use Rattle.costs.proofs.cost.Goals as goal

pub total-requires-clause-small : goal.total-requires-clause-small
total-requires-clause-small c = λ i r l p. rw p (share_small _ _ i (c.requires.0.small i (omega (arith, l, c.index.ensures))))

pub returns : goal.returns
returns c =
    let part = share_at c.args.tables.now c.args.assignment.now in
    to_z-of_z {w = w64} (record { sfits = c.total.type_inv })
    ∙ c.total.ensures part (λ i r l p. p)
    ∙ ap (sum_from part 0) c.index.ensures
    ∙ sym (cost_summed _ _)
