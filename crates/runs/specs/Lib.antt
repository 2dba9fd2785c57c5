-- Runs of the search in a row.
pub mod Repeating
