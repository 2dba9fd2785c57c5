-- What is found at a place of the tallies.
pub mod Found
