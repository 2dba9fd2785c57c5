-- `of` meets its contract: the table tells where the run begins and ends.
-- Assumes nothing.
use native.Mathlib.Omega.{arith}
use mathlib.Core.Path.{◌∙◌}
use Rattle.effects.proofs.Runs.{going_tables, going_few, run_first, run_last}
use Rattle.effects.proofs.Visits.{going_on}
use Rattle.effects.proofs.run.Run.of.Goals as goal

pub run_of-at-requires : goal.run_of-at-requires
run_of-at-requires c = let g = going_on c.args.footing.now c.requires in (c.requires.low, omega (arith, going_few g, going_tables g))

pub invariant_of-result : goal.invariant_of-result
invariant_of-result c =
    let g = going_on c.args.footing.now c.requires in
    record { going = g; begins = c.run_of-at.ensures.0 ∙ run_first g; ends = c.run_of-at.ensures.1 ∙ run_last g }
