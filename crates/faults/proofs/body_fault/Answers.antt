-- `body_fault` meets its contract: 4, 6, then 5, and last what a field of locks meets.
-- Assumes nothing.
use mathlib.Core.Path.{sym, ◌∙◌}
use Rattle.bodies.proofs.Tags.{tag_byte}
use Rattle.faults.specs.Faults.{state_of}
use Rattle.faults.proofs.Faults.{past, wrong, bad, fine, untagged}
use Rattle.faults.proofs.body_fault.Goals as goal

pub returns-then-past_limits : goal.returns-then-past_limits
returns-then-past_limits c = past _ _ (sym c.past_limits.ensures ∙ c.if-past_limits.true)

pub returns-then-wrong_bounds : goal.returns-then-wrong_bounds
unfolding state_of
returns-then-wrong_bounds c =
    wrong _ _ (sym c.past_limits.ensures ∙ c.if-past_limits.false) (sym c.wrong_bounds.ensures ∙ c.if-wrong_bounds.true)

pub returns-then-not-right_terms : goal.returns-then-not-right_terms
unfolding state_of
returns-then-not-right_terms c =
    bad _ _ (sym c.past_limits.ensures ∙ c.if-past_limits.false) (sym c.wrong_bounds.ensures ∙ c.if-wrong_bounds.false)
    (sym c.right_terms.ensures ∙ c.if-not-right_terms.true)

pub returns : goal.returns
unfolding state_of
returns c =
    c.locks_fault.ensures
    ∙ fine _ _ (sym c.past_limits.ensures ∙ c.if-past_limits.false) (sym c.wrong_bounds.ensures ∙ c.if-wrong_bounds.false)
    (sym c.right_terms.ensures ∙ c.if-not-right_terms.false)

pub returns-in_default : goal.returns-in_default
unfolding state_of
returns-in_default c = untagged _ _ (λ t e. c.in_default.ensures t (e ∙ sym (tag_byte _ _)))

pub invariant_of-field-clause-tagged : goal.invariant_of-field-clause-tagged
invariant_of-field-clause-tagged c = c.in-Some.ensures ∙ tag_byte _ _
