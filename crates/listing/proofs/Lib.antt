-- Laws of the lists of the clauses' variables.
pub mod Ahead
pub mod Reaching
pub mod Listing
-- A part of the marks filled with zeros.
pub mod Filling
