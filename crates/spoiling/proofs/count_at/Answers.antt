-- The goals that the search leaves.
use native.Mathlib.Omega.{arith}
use mathlib.Core.Path.{sym, ◌∙◌}
use Rattle.effects.proofs.Runs.{run_inside}
use Rattle.effects.proofs.Places.{place_few}
use Rattle.groups.proofs.Runs.{opened}
use Rattle.freely.proofs.Free.{single_spoils, single_group, unbroken}
use Rattle.spoiling.proofs.Counting.{single_count}
use Rattle.spoiling.proofs.count_at.Goals as goal

pub overflow_add-next : goal.overflow_add-next
overflow_add-next c = omega (arith, place_few (opened c.args.run.now c.requires.begins))

pub returns-then-not-spoils_at : goal.returns-then-not-spoils_at
returns-then-not-spoils_at c =
    let g = c.requires.begins in
    let one = sym c.has_several.ensures ∙ c.if-not-has_several.true in
    record {
      counted = unbroken _ (single_spoils (opened c.args.run.now g) one ∙ sym c.spoils_at.ensures ∙ c.if-not-spoils_at.true);
      ends = sym (single_group g (omega (arith, g.last, run_inside c.args.run.now.going)) one);
    }

pub returns-then-not-has_several : goal.returns-then-not-has_several
returns-then-not-has_several c =
    let g = c.requires.begins in
    let one = sym c.has_several.ensures ∙ c.if-not-has_several.true in
    record {
      counted = single_count (opened c.args.run.now g) one c.state_at.ensures c.spoiled.ensures;
      ends = sym (single_group g (omega (arith, g.last, run_inside c.args.run.now.going)) one);
    }

pub returns-then-not-breaks : goal.returns-then-not-breaks
returns-then-not-breaks c =
    let e = c.at-group.ensures in
    record { counted = unbroken _ (rw (e.0, e.1) at (sym c.breaks.ensures ∙ c.if-not-breaks.true)); ends = e.3 }

pub returns : goal.returns
returns c =
    let e = c.at-group.ensures in
    record { counted = rw (e.0, e.1) at c.break_along.ensures; ends = e.3 }
