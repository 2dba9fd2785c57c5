-- The laws of the judge.
pub mod Faults
pub mod Steps
