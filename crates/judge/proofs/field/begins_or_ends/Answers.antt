-- `judge::field::begins_or_ends` meets its contract: the two tests are those of the definition.
-- Assumes nothing.
use mathlib.Core.Path.{◌∙◌}
use Rattle.format.specs.declared.Tag.TheVariants.{Clause, End}
use Rattle.format.specs.File.{may_stand}
use Rattle.judge.proofs.Judged.{same_number, or_then, or_else}
use Rattle.judge.proofs.field.begins_or_ends.Goals as goal

pub returns-then-eq : goal.returns-then-eq
unfolding may_stand
returns-then-eq c = or_then (c.eq.ensures ∙ same_number _ Clause) _ c.if-eq.true

pub returns-else-eq : goal.returns-else-eq
unfolding may_stand
returns-else-eq c = or_else (c.eq.ensures ∙ same_number _ Clause) c.if-eq.false (c.eq-else-eq.ensures ∙ same_number _ End)
