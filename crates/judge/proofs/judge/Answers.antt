-- The goals that the search leaves.
use mathlib.Core.Path.{sym, ap, ◌∙◌}
use Rattle.std.specs.Prelude.{Err}
use Rattle.judge.proofs.Stepped.{goes, ends, stops, judge_start, judge_end}
use Rattle.judge.proofs.judge.Goals as goal

pub loop-field-init : goal.loop-field-init
loop-field-init c = judge_start _

pub returns-in_err-next : goal.returns-in_err-next
returns-in_err-next c =
    sym (stops _ _ _ _ c.loop-field-test.true _ c.in_err-next.ensures _ c.from_residual.ensures.1) ∙ c.loop-field.invariant

pub returns-in-None : goal.returns-in-None
returns-in-None c = sym (ends _ _ _ _ c.loop-field-test.true _ c.in_ok-next.ensures c.in-None.is) ∙ c.loop-field.invariant

pub loop-field-preserved : goal.loop-field-preserved
loop-field-preserved c = sym (goes _ _ _ _ c.loop-field-test.true _ c.in_ok-next.ensures _ c.in-Some.is) ∙ c.loop-field.invariant

pub returns : goal.returns
returns c = ap Err c.refusal.ensures ∙ judge_end _ _ _ _ c.loop-field-test.false ∙ c.loop-field.invariant
