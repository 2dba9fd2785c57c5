-- `judge::go_on` meets its contract: a field at fault stops, the end stops, and any other goes on.
-- Assumes nothing.
use mathlib.Core.Path.{sym, ap, ◌∙◌}
use denote.Enum.Bare.{same_true, same_false}
use Rattle.format.specs.contracts.Tag.{the_type}
use Rattle.bodies.specs.Faults.{found}
use Rattle.judge.proofs.Stepped.{step_fault, took_more, took_last, took_bytes}
use Rattle.judge.proofs.field.Reader.go_on.Goals as goal

pub returns-in_default : goal.returns-in_default
returns-in_default c = step_fault _ _ _ _ (sym (ap found c.unwrap_err.ensures) ∙ c.take-answer.ensures.fault) c.refusal.ensures

pub returns-in_err-finish : goal.returns-in_err-finish
returns-in_err-finish c =
    took_bytes _ _ _ c.in-Ok.ensures.fault c.in-Ok.ensures.taken _ _ (same_true the_type tt _ _ (sym c.eq.ensures ∙ c.if-eq.true)) c.in_err-finish.ensures c.from_residual.ensures.1

pub returns-then-eq : goal.returns-then-eq
returns-then-eq c = took_last _ _ _ c.in-Ok.ensures.fault c.in-Ok.ensures.taken (same_true the_type tt _ _ (sym c.eq.ensures ∙ c.if-eq.true)) c.in_ok-finish.ensures

pub returns : goal.returns
returns c = took_more _ _ _ c.in-Ok.ensures.fault c.in-Ok.ensures.taken _ (same_false the_type _ _ (sym c.eq.ensures ∙ c.if-eq.false)) c.behind.ensures
