-- The laws of codes, sums, rules and clauses.
pub mod Parts
pub mod Judging
pub mod Resting
pub mod Running
