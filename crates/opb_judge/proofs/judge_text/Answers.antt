-- `opb_judge::judge_text` meets its contract, case by case of the first line.
-- Assumes nothing.
use mathlib.Core.Path.{ap, ◌∙◌}
use Rattle.std.specs.Prelude.{Err}
use Rattle.std.proofs.lemmas.Result.{err_from_is_err_and}
use Rattle.opb_judge.proofs.Faults.{not_there, there}
use Rattle.opb_judge.proofs.Steps.{inside, outside, first_malformed, none_named, many_named, named_right, first_right}
use Rattle.opb_judge.proofs.judge_text.Goals as goal

pub returns-in_err-first : goal.returns-in_err-first
returns-in_err-first c =
    let none = not_there _ _ _ c.first_line.ensures c.in_err-first.ensures.value in
    let is = err_from_is_err_and c.from_residual.result c.from_residual.ensures.1 in
    is.1 ∙ ap Err (is.2 ∙ none.1 ∙ c.refusal.ensures) ∙ first_malformed _ none.0

pub returns-then-not-contains : goal.returns-then-not-contains
returns-then-not-contains c =
    let first = there _ _ _ _ c.first_line.ensures c.in_ok-first.ensures.value in
    let a = c.new.ensures in
    ap Err c.refusal-then-not-contains.ensures
    ∙ outside _ a.start a.end a.exhausted c.contains.ensures.value c.if-not-contains.true (none_named _ first.0 first.1.variables) (many_named _ first.0 first.1.variables)

pub judge_lines-requires : goal.judge_lines-requires
judge_lines-requires c =
    let first = there _ _ _ _ c.first_line.ensures c.in_ok-first.ensures.value in
    let a = c.new.ensures in
    let n = inside _ a.start a.end a.exhausted c.contains.ensures.value c.if-not-contains.false in
    (named_right _ first.0 first.1.variables n.0 n.1, n.1, first.1.constraints)

pub returns : goal.returns
returns c =
    let first = there _ _ _ _ c.first_line.ensures c.in_ok-first.ensures.value in
    let a = c.new.ensures in
    let n = inside _ a.start a.end a.exhausted c.contains.ensures.value c.if-not-contains.false in
    first_right _ first.0 first.1.variables n.0 n.1 c.judge_lines.ensures
