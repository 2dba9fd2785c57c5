-- `judge::field::may_stand` meets its contract, stage by stage.
-- Assumes nothing.
use mathlib.Core.Path.{◌∙◌}
use Rattle.format.specs.declared.Tag.TheVariants.{Variables, Objective, Rule, Locks}
use Rattle.format.specs.File.{may_stand}
use Rattle.faults.specs.Faults.{stage_of}
use Rattle.judge.proofs.Judged.{same_number, or_then, or_else, second_then, second_else}
use Rattle.judge.proofs.field.may_stand.Goals as goal

pub returns-in-Count : goal.returns-in-Count
unfolding may_stand stage_of
returns-in-Count c = rw c.in-Count.is (c.eq.ensures ∙ same_number _ Variables)

pub returns-in-Objective : goal.returns-in-Objective
unfolding may_stand stage_of
returns-in-Objective c = rw c.in-Objective.is (c.eq-in-Objective.ensures ∙ same_number _ Objective)

pub returns-then-eq : goal.returns-then-eq
unfolding may_stand stage_of
returns-then-eq c = rw c.in-Locks.is (or_then (c.eq-in-Locks.ensures ∙ same_number _ Locks) _ c.if-eq.true)

pub returns-else-eq : goal.returns-else-eq
unfolding may_stand stage_of
returns-else-eq c = rw c.in-Locks.is (or_else (c.eq-in-Locks.ensures ∙ same_number _ Locks) c.if-eq.false c.begins_or_ends.ensures)

pub returns-in-Clause : goal.returns-in-Clause
unfolding stage_of
returns-in-Clause c = rw c.in-Clause.is c.begins_or_ends-in-Clause.ensures

pub returns-in-Rule : goal.returns-in-Rule
unfolding may_stand stage_of
returns-in-Rule c = rw c.in-Rule.is (c.eq-in-Rule.ensures ∙ same_number _ Rule)

pub returns-then-eq-2 : goal.returns-then-eq-2
unfolding may_stand stage_of
returns-then-eq-2 c = rw c.in-MoreRules.is (second_then (c.eq-in-MoreRules.ensures ∙ same_number _ Rule) _ _ c.if-eq-2.true)

pub returns-else-eq-2 : goal.returns-else-eq-2
unfolding may_stand stage_of
returns-else-eq-2 c =
    rw c.in-MoreRules.is (second_else (c.eq-in-MoreRules.ensures ∙ same_number _ Rule) _ _ c.if-eq-2.false c.begins_or_ends-else-eq-2.ensures)
