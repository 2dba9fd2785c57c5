-- The laws of the sum over clauses.
pub mod Summing
