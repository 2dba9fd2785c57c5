-- How far the lists of the clauses' variables have come.
pub mod Listing
