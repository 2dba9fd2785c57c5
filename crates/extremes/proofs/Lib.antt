-- The laws of the two sums.
pub mod Terms
pub mod Summing
