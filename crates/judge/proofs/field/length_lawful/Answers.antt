-- `judge::field::length_lawful` meets its contract, tag by tag.
-- Assumes nothing.
use borrow.Author.Tests.{le-leb, lt-leb}
use Rattle.plpb.specs.Lists.{◌and◌}
use Rattle.format.specs.File.{length_lawful}
use Rattle.judge.proofs.field.length_lawful.Goals as goal

pub returns-in-Variables : goal.returns-in-Variables
unfolding length_lawful
returns-in-Variables c = rw c.in-Variables.is

pub returns-in-Objective : goal.returns-in-Objective
unfolding length_lawful
returns-in-Objective c = rw c.in-Objective.is

pub returns-in-Clause : goal.returns-in-Clause
unfolding length_lawful
returns-in-Clause c = rw c.in-Clause.is

pub returns-then-size-ge15 : goal.returns-then-size-ge15
unfolding length_lawful ◌and◌
returns-then-size-ge15 c = rw (c.in-Rule.is, le-leb _ _ c.if-size-ge15.true)

pub returns-else-size-ge15 : goal.returns-else-size-ge15
unfolding length_lawful ◌and◌
returns-else-size-ge15 c = rw (c.in-Rule.is, lt-leb _ _ c.if-size-ge15.false)

pub returns-in-End : goal.returns-in-End
unfolding length_lawful
returns-in-End c = rw c.in-End.is

pub returns-in-Locks : goal.returns-in-Locks
unfolding length_lawful
returns-in-Locks c = rw c.in-Locks.is
