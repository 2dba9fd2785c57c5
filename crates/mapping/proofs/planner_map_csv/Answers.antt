-- `mapping::planner_map_csv` meets its contract: 21, then what the lists meet, else the file.
-- Assumes nothing.
use native.Mathlib.Omega.{arith}
use mathlib.Core.Path.{refl, sym, ap, ◌∙◌}
use Rattle.lists.specs.Refusals.{Refusal}
use Rattle.mapping.proofs.Answers.{some_refusal, small_room, room, says_refused, says_err, says_accepted}
use Rattle.mapping.proofs.planner_map_csv.Goals as goal

pub returns-then-plan-lt-LEAST_ROOM : goal.returns-then-plan-lt-LEAST_ROOM
returns-then-plan-lt-LEAST_ROOM c =
    let a = c.args in
    let e = small_room a.sites.now a.zones.now a.plan.now c.if-plan-lt-LEAST_ROOM.true in
    let whole = says_refused _ _ _ 21 0 0 (sym (ap (λ (f : Refusal). f.number) e)) (sym (ap (λ (f : Refusal). f.list) e)) (sym (ap (λ (f : Refusal). f.row) e)) (λ z. absurd (omega (arith, z)))
    c.refused.ensures in record { refusal_value = whole.0; plan_after = whole.1 }

pub returns-in-Err : goal.returns-in-Err
returns-in-Err c =
    let a = c.args in
    let e = room a.sites.now a.zones.now a.plan.now c.if-plan-lt-LEAST_ROOM.false in
    let whole = says_err _ _ _ c.in-Err.refusal (some_refusal c.in-Err.refusal) (e ∙ c.in-Err.ensures) c.from.ensures in
    record { refusal_value = whole.0; plan_after = whole.1 }

pub returns-in-Ok : goal.returns-in-Ok
returns-in-Ok c =
    let a = c.args in
    let e = room a.sites.now a.zones.now a.plan.now c.if-plan-lt-LEAST_ROOM.false in
    let whole = says_accepted _ _ _ _ (e ∙ c.in-Ok.ensures.0) refl c.put_plan.ensures.0 c.put_plan.ensures.1 in record { refusal_value = whole.0; plan_after = whole.1 }
