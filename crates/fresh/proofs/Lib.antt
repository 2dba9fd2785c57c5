-- The laws of the test whether tallies are those of a fresh count.
pub mod Testing
