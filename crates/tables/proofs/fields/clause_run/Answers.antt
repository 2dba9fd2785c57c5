-- The goals that the search leaves.
use native.Mathlib.Omega.{arith}
use Rattle.tables.specs.Places.{behind_field}
use Rattle.tables.proofs.Found.{run_more, run_end, found_room, found_body}
use Rattle.tables.proofs.fields.clause_run.Goals as goal

pub loop-at-smaller : goal.loop-at-smaller
unfolding behind_field
loop-at-smaller c = omega (arith, c.after-at.ensures, found_room c.loop-at.invariant.reads.2)

pub loop-at-preserved : goal.loop-at-preserved
loop-at-preserved c = run_more c.loop-at.invariant c.loop-at-test.true c.after-at.ensures

pub bounds-file-at : goal.bounds-file-at
bounds-file-at c = omega (arith, found_room c.loop-at.invariant.reads.2)

pub after-at-requires : goal.after-at-requires
after-at-requires c = found_body c.loop-at.invariant.reads.2

pub returns : goal.returns
returns c = run_end c.loop-at.invariant c.loop-at-test.false
