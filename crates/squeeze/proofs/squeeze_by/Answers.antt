-- `squeeze_by` meets its contract, by whether there is a fault.
-- Assumes nothing.
use mathlib.Core.Path.{sym, ap, ◌∙◌}
use Rattle.tables.specs.Places.{plan_of_file}
use Rattle.squeeze.specs.Calls.{fault_number}
use Rattle.squeeze.proofs.Outcomes.{turned, through, no_fault, none_is_0, is_turned, is_rewritten}
use Rattle.squeeze.proofs.squeeze_by.Goals as goal

pub returns-in-Some : goal.returns-in-Some
returns-in-Some c =
    let p = plan_of_file c.args.file.now in
    let number = c.from.ensures.0 ∙ ap fault_number (sym c.in-Some.is) ∙ c.fault.ensures in
    let whole = is_turned _ _ _ _ _
    (turned p _ c.fill-variables.ensures.0 c.fill-variables.ensures.1 number c.args.file.now c.args.old.now (λ e. no_fault _ (sym c.from.ensures.0 ∙ e)))
    (c.from-in-Some.ensures.0, c.from-in-Some.ensures.1 ∙ c.from.ensures.1, c.from-in-Some.ensures.2, c.from-in-Some.ensures.3) in record { answers = whole.0; file_after = whole.1.0; after = whole.1.1 }

pub returns-in-None : goal.returns-in-None
returns-in-None c =
    let p = plan_of_file c.args.file.now in
    let ends = c.carry_out.ensures in
    let whole = is_rewritten p _ c.fill-variables.ensures.0 _ c.args.file.now c.args.old.now _ _
    (through p _ c.fill-variables.ensures.0 c.fill-variables.ensures.1 c.fault.ensures c.args.file.now c.args.old.now (none_is_0 c.in-None.is))
    c.fill-variables.ensures.1 ends.refusal_value ends.file_after ends.after in record { answers = whole.0; file_after = whole.1.0; after = whole.1.1 }
