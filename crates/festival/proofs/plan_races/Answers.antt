-- `festival::plan_races` meets its contract: the stakes are read, the festival is planned, the parts are written.
-- Assumes nothing.
use Prim.Native.Nat.{◌/◌}
use mathlib.Core.List.{[], ◌∷◌}
use mathlib.Core.Path.{sym, ap, ◌∙◌}
use lib.ListN.{length}
use Rattle.std.specs.Prelude.{Result}
use Rattle.division.specs.declared.Parts.{Parts}
use Rattle.division.specs.declared.Refusal.{Refusal}
use Rattle.division.specs.Eight.{refusal_in, parts_in}
use Rattle.races.specs.Races.{parts_put}
use Rattle.festival.specs.Own.{works}
use Rattle.festival.specs.Festival.{given, buffers, room_refusal}
use Rattle.festival.proofs.Racing.{called}
use Rattle.festival.proofs.plan_races.Goals as goal

pub returns-in-Ok : goal.returns-in-Ok
unfolding refusal_in parts_in
returns-in-Ok c =
    let a = c.args in
    let done = c.put_in.ensures ∙ sym (ap (λ (r : Result Parts Refusal). parts_put (parts_in r) a.races.now) c.in-Ok.is) in
    let r =
    called a.races.now
    (given a.numbers.now a.settings.now (a.t1.now ∷ a.t2.now ∷ a.t3.now ∷ a.t4.now ∷ a.t5.now ∷ a.t6.now ∷ a.t7.now ∷ a.t8.now ∷ [])
    (a.e1.now ∷ a.e2.now ∷ a.e3.now ∷ a.e4.now ∷ a.e5.now ∷ a.e6.now ∷ a.e7.now ∷ a.e8.now ∷ []))
    (buffers a.assignments.now a.answers.now
    (works a.work_tables.now a.work_terms.now a.work_assignment.now a.work_tallies.now a.work_marks.now))
    (room_refusal (length a.settings.now) (length a.assignments.now) (length a.answers.now)) (length a.numbers.now / 4) c.plan_all-planned.result
    c.stakes_in-stakes.ensures c.plan_all-planned.ensures.by_index c.plan_all-planned.ensures.work_marks_after done in
    record { value = sym (ap refusal_in c.in-Ok.is) ∙ r.0; races_after = r.1; work_marks_after = r.2 }

pub returns-in-Err : goal.returns-in-Err
unfolding refusal_in parts_in parts_put
returns-in-Err c =
    let a = c.args in
    let done = sym (ap (λ (r : Result Parts Refusal). parts_put (parts_in r) a.races.now) c.in-Err.is) in
    let r =
    called a.races.now
    (given a.numbers.now a.settings.now (a.t1.now ∷ a.t2.now ∷ a.t3.now ∷ a.t4.now ∷ a.t5.now ∷ a.t6.now ∷ a.t7.now ∷ a.t8.now ∷ [])
    (a.e1.now ∷ a.e2.now ∷ a.e3.now ∷ a.e4.now ∷ a.e5.now ∷ a.e6.now ∷ a.e7.now ∷ a.e8.now ∷ []))
    (buffers a.assignments.now a.answers.now
    (works a.work_tables.now a.work_terms.now a.work_assignment.now a.work_tallies.now a.work_marks.now))
    (room_refusal (length a.settings.now) (length a.assignments.now) (length a.answers.now)) (length a.numbers.now / 4) c.plan_all-planned.result
    c.stakes_in-stakes.ensures c.plan_all-planned.ensures.by_index c.plan_all-planned.ensures.work_marks_after done in
    record { value = c.from.ensures ∙ sym (ap refusal_in c.in-Err.is) ∙ r.0; races_after = r.1; work_marks_after = r.2 }
