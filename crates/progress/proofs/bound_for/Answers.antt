-- `bound_for` meets its contract, by the mode.
-- Assumes nothing.
use mir.Syntax.{w64}
use mathlib.Core.Path.{◌∙◌, sym, ap, ap₂}
use mir.Facts.{to_z-of_z}
use Rattle.plpb.specs.Search.{linear_bound, lbs_bound, bound_in}
use Rattle.settings.specs.Settings.{mode_in}
use Rattle.progress.proofs.Concluding.{bound_linear, bound_lbs}
use Rattle.progress.proofs.bound_for.Goals as goal

pub returns-in-Linear : goal.returns-in-Linear
returns-in-Linear c =
    to_z-of_z {w = w64} (record { sfits = c.linear_bound.type_inv }) ∙ c.linear_bound.ensures ∙ ap linear_bound (to_z-of_z c.ranges.cost) ∙ bound_linear c.args.least c.args.cost
    ∙ ap (λ m. bound_in m c.args.least c.args.cost) (sym (ap mode_in c.in-Linear.is) ∙ c.from.ensures)

pub returns-in-Lbs : goal.returns-in-Lbs
returns-in-Lbs c =
    to_z-of_z {w = w64} (record { sfits = c.lbs_bound.type_inv }) ∙ c.lbs_bound.ensures ∙ ap₂ lbs_bound (to_z-of_z c.ranges.least) (to_z-of_z c.ranges.cost) ∙ bound_lbs c.args.least c.args.cost
    ∙ ap (λ m. bound_in m c.args.least c.args.cost) (sym (ap mode_in c.in-Lbs.is) ∙ c.from.ensures)
