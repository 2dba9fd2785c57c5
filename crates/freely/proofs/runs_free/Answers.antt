-- `runs_free` meets its contract: the hint is that of the place found.
-- Assumes nothing.
use native.Mathlib.Omega.{arith}
use mathlib.Core.Path.{sym, subst}
use borrow.Author.Tests.{not-true}
use Rattle.words.proofs.Writes.{word_wrote}
use Rattle.columns.specs.Columns.{Tells}
use Rattle.effects.specs.Footing.{plan_on}
use Rattle.effects.proofs.Runs.{going_few}
use Rattle.effects.proofs.Visits.{going_on, has_places}
use Rattle.freely.proofs.Free.{wrote_there}
use Rattle.freely.proofs.runs_free.Goals as goal

pub hint_for-hint-requires : goal.hint_for-hint-requires
hint_for-hint-requires c = c.in-Some.ensures.inside

pub write_word-requires : goal.write_word-requires
write_word-requires c = omega (arith, going_few (going_on _ (has_places c.requires)), c.requires.weighed.room)

pub returns : goal.returns
returns c =
    let e = c.of-run.ensures in
    let w = word_wrote _ c.hint_for-hint.result c.args.marks.now _ (omega (arith, going_few (going_on _ (has_places c.requires)), c.requires.weighed.room)) (omega arith) c.write_word.ensures in (
      sym (not-true _ (sym (rw (e.0, e.2) at c.in-Some.ensures.found))),
      wrote_there w,
      subst (Tells (plan_on c.args.footing.now) c.args.x) (sym w.here) (rw (e.0, e.2) at c.hint_for-hint.ensures),
    )
