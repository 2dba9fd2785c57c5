-- `judge::behind` meets its contract, tag by tag.
-- Assumes nothing.
use native.Mathlib.Omega.{arith}
use mathlib.Core.Path.{refl}
use Rattle.format.specs.File.{stage_after}
use Rattle.faults.specs.Faults.{stage_of}
use Rattle.judge.proofs.Stepped.{taken_count, taken_clause, taken_rule, taken_size, taken_terms, next_is}
use Rattle.judge.proofs.field.Reader.behind.Goals as goal

pub read_u16-requires : goal.read_u16-requires
read_u16-requires c = taken_count _ _ _ c.requires.0 c.requires.1 c.in-Variables.is

pub overflow_add-result : goal.overflow_add-result
overflow_add-result c = omega (arith, taken_clause _ _ _ c.requires.0 c.requires.1 c.in-Clause.is)

pub overflow_add-result-in-Rule : goal.overflow_add-result-in-Rule
overflow_add-result-in-Rule c = omega (arith, taken_rule _ _ _ c.requires.0 c.requires.1 c.in-Rule.is)

pub overflow_sub-result-in-Rule : goal.overflow_sub-result-in-Rule
overflow_sub-result-in-Rule c = taken_size _ _ _ c.requires.0 c.requires.1 c.in-Rule.is

pub overflow_add-result-in-Rule-2 : goal.overflow_add-result-in-Rule-2
overflow_add-result-in-Rule-2 c = omega (arith, taken_terms _ _ _ c.requires.0 c.requires.1 c.in-Rule.is)

pub returns-in-Variables : goal.returns-in-Variables
unfolding stage_of stage_after
returns-in-Variables c = next_is _ _ _ c.requires.0 c.requires.1 _ _ _ _ _ _ c.in-Variables.is refl c.read_u16.ensures refl refl refl

pub returns-in-Objective : goal.returns-in-Objective
unfolding stage_of stage_after
returns-in-Objective c = next_is _ _ _ c.requires.0 c.requires.1 _ _ _ _ _ _ c.in-Objective.is refl refl refl refl refl

pub returns-in-Locks : goal.returns-in-Locks
unfolding stage_of stage_after
returns-in-Locks c = next_is _ _ _ c.requires.0 c.requires.1 _ _ _ _ _ _ c.in-Locks.is refl refl refl refl refl

pub returns-in-Clause : goal.returns-in-Clause
unfolding stage_of stage_after
returns-in-Clause c = next_is _ _ _ c.requires.0 c.requires.1 _ _ _ _ _ _ c.in-Clause.is refl refl refl refl refl

pub returns-in-Rule : goal.returns-in-Rule
unfolding stage_of stage_after
returns-in-Rule c = next_is _ _ _ c.requires.0 c.requires.1 _ _ _ _ _ _ c.in-Rule.is refl refl refl refl refl

pub returns-in-End : goal.returns-in-End
unfolding stage_of stage_after
returns-in-End c = next_is _ _ _ c.requires.0 c.requires.1 _ _ _ _ _ _ c.in-End.is refl refl refl refl refl
