-- `figures` meets its contract: each figure is reduced from its sums.
-- Assumes nothing.
use mathlib.Core.Path.{ap, ◌∙◌}
use mir.Val.{bool_byte}
use Rattle.figures.specs.Figures.{share, mean_flips, figures_by}
use Rattle.figures.proofs.Means.{marked, handed}
use Rattle.figures.proofs.Sums.figures.Goals as goal

pub returns : goal.returns
unfolding figures_by share mean_flips
returns c =
    let mark = c.from.ensures ∙ ap bool_byte c.is_some.ensures ∙ marked _ c.mean_cost-cost.ensures in
    rw (mark, c.reduce-share.ensures, c.reduce-flips.ensures, c.unwrap_or.ensures ∙ handed _ c.mean_cost-cost.ensures)
