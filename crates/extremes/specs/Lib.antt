-- Terms in a table of words.
pub mod Terms
pub mod Sums
