-- The goals that the search leaves.
use mathlib.Core.Path.{refl, sym, ◌∙◌}
use Rattle.bodies.proofs.TermLaws.{lawful_first, lawful_end, lawful_go, lawful_stop}
use Rattle.bodies.proofs.terms.terms_lawful.Goals as goal

pub returns-then-not-term_lawful : goal.returns-then-not-term_lawful
returns-then-not-term_lawful c =
    sym (sym c.loop-i.invariant.1 ∙ lawful_stop _ _ _ _ _ c.loop-i-test.true (sym c.term_lawful.ensures ∙ c.if-not-term_lawful.true))

pub loop-i-preserved : goal.loop-i-preserved
loop-i-preserved c =
    (c.loop-i.invariant.0, sym (lawful_go _ _ _ _ _ c.loop-i-test.true _ (sym c.term_lawful.ensures ∙ c.if-not-term_lawful.false) c.read_u16.ensures) ∙ c.loop-i.invariant.1)

pub returns : goal.returns
returns c = sym (lawful_end _ _ _ _ _ c.loop-i-test.false) ∙ c.loop-i.invariant.1

pub loop-i-init : goal.loop-i-init
loop-i-init c = (refl, lawful_first _ _ _)
