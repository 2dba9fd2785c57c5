-- `report::judge_both` meets its contract: walk.bin and then numbers.bin decide.
-- Assumes nothing.
use Rattle.std.proofs.lemmas.Result.{err_from_is_err_and}
use Rattle.report.proofs.Reporting.{settings_refused, numbers_refused}
use Rattle.report.proofs.judge_both.Goals as goal

pub returns-in_err-settings : goal.returns-in_err-settings
returns-in_err-settings c =
    let is = err_from_is_err_and c.from_residual.result c.from_residual.ensures.1 in
    rw (is.1, is.2) (λ p. settings_refused c.args.walk.now p c.args.numbers.now c.in_err-settings.field-0.0 c.in_err-settings.ensures)

pub returns-in_err-judge_numbers : goal.returns-in_err-judge_numbers
returns-in_err-judge_numbers c =
    let is = err_from_is_err_and c.from_residual-in_err-judge_numbers.result c.from_residual-in_err-judge_numbers.ensures.1 in
    rw (is.1, is.2) (λ p. numbers_refused c.args.walk.now p c.args.numbers.now _ c.in_ok-settings.ensures c.in_err-judge_numbers.field-0.0 c.in_err-judge_numbers.ensures)
