-- What a choice answers, as the walk has it.
pub mod Outcome
