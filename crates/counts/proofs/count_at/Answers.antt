-- The goals that the search leaves.
use native.Mathlib.Omega.{arith}
use mathlib.Core.Path.{sym, ◌∙◌}
use Rattle.effects.proofs.Runs.{run_inside}
use Rattle.effects.proofs.Places.{place_few}
use Rattle.groups.proofs.Runs.{opened}
use Rattle.freely.proofs.Free.{single_group}
use Rattle.spoiling.proofs.Counting.{single_mend}
use Rattle.counts.proofs.count_at.Goals as goal

pub overflow_add-result : goal.overflow_add-result
overflow_add-result c = omega (arith, place_few (opened c.args.run.now c.requires.begins))

pub returns-then-not-has_several : goal.returns-then-not-has_several
returns-then-not-has_several c =
    let g = c.requires.begins in
    let one = sym c.has_several.ensures ∙ c.if-not-has_several.true in
    record {
      counted = single_mend (opened c.args.run.now g) one c.state_at.ensures c.mended.ensures;
      ends = sym (single_group g (omega (arith, g.last, run_inside c.args.run.now.going)) one);
    }
