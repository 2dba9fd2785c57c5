-- What writing the clauses' lines needs.
pub mod Clauses
pub mod Several
