-- The law behind the answers.
pub mod Passed
