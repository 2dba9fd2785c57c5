-- The goals that the search leaves.
use mathlib.Core.Path.{sym, ◌∙◌}
use Rattle.effects.proofs.Visits.{visited}
use Rattle.spoiling.proofs.Counting.{single_past}
use Rattle.spoiling.proofs.shows_cut.Goals as goal

pub returns : goal.returns
returns c = λ e.
    single_past (visited c.args.run.now c.requires) (sym c.has_several.ensures ∙ c.if-has_several.false) c.state_at.ensures (c.surely_past.ensures e)
