-- How far the places of one clause go in a variable's run.
pub mod Stretch
-- The groups of a run.
pub mod Run
-- Facts have one proof at most.
pub mod Facts
-- What a group says of its plan.
pub mod Group
