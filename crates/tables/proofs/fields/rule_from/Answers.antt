-- `tables::fields::rule_from` meets its contract.
-- Assumes nothing.
use mathlib.Core.Path.{sym, ◌∙◌}
use borrow.Author.Tests.{eq-eqb, ne_eqb}
use Rattle.tables.specs.Places.{rule_from}
use Rattle.bodies.proofs.Tags.{tag_byte}
use Rattle.tables.proofs.fields.rule_from.Goals as goal

pub returns-then-file-at : goal.returns-then-file-at
unfolding rule_from
returns-then-file-at c = rw (eq-eqb _ 3 (sym (tag_byte c.args.file.now c.args.at) ∙ c.if-file-at.true))

pub returns-else-file-at : goal.returns-else-file-at
unfolding rule_from
returns-else-file-at c = rw (ne_eqb _ 3 (λ q. c.if-file-at.false (tag_byte c.args.file.now c.args.at ∙ q)))
