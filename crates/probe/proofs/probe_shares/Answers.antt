-- `probe_shares` meets its contract: the state that it was told is answered where its numbers go together.
-- Assumes nothing.
use mathlib.Core.Path.{sym, ap, ◌∙◌}
use Rattle.probe.specs.Answers.{share_words}
use Rattle.probe.proofs.Answering.{balanced, answered, unanswered, none_words, shared, present_or}
use Rattle.probe.proofs.probe_shares.Goals as goal

pub shares-requires : goal.shares-requires
shares-requires c = balanced _ (sym c.is_balanced.ensures ∙ c.if-is_balanced.true)

pub returns-then-is_balanced : goal.returns-then-is_balanced
returns-then-is_balanced c =
    let at = c.args in
    rw (← c.stands.ensures, ← present_or at.lower at.a c.then_some.ensures, ← present_or at.upper at.b c.then_some-2.ensures)
    (c.from.ensures ∙ shared _ c.shares.ensures ∙ ap share_words (answered _ (sym c.is_balanced.ensures ∙ c.if-is_balanced.true)))

pub returns-else-is_balanced : goal.returns-else-is_balanced
returns-else-is_balanced c =
    let at = c.args in
    rw (← c.stands.ensures, ← present_or at.lower at.a c.then_some.ensures, ← present_or at.upper at.b c.then_some-2.ensures)
    (none_words ∙ ap share_words (unanswered _ (sym c.is_balanced.ensures ∙ c.if-is_balanced.false)))
