-- The laws of the statements' parts.
pub mod Parts
pub mod Sums
