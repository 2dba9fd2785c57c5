-- `opb_judge::closed` meets its contract.
-- Assumes nothing.
use borrow.Author.Tests.{eq-eqb, ne_eqb}
use mathlib.Core.Path.{sym, ◌∙◌}
use Rattle.plpb.specs.Lists.{◌and◌}
use Rattle.statements.specs.Grammar.{closes}
use Rattle.opb_judge.proofs.closed.Goals as goal

pub returns-then-byte-eq59 : goal.returns-then-byte-eq59
unfolding closes ◌and◌
returns-then-byte-eq59 c = rw (eq-eqb _ 59 (sym c.byte.ensures ∙ c.if-byte-eq59.true))

pub returns-else-byte-eq59 : goal.returns-else-byte-eq59
unfolding closes ◌and◌
returns-else-byte-eq59 c = rw (ne_eqb _ 59 c.if-byte-eq59.false, ne_eqb _ 59 (λ e. c.if-byte-eq59.false (c.byte.ensures ∙ e)))
