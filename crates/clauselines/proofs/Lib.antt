-- The laws of the clauses' lines.
pub mod Looping
pub mod Rules
pub mod Clauses
