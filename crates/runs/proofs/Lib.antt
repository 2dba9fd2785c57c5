-- The laws behind runs in a row.
pub mod Once
pub mod Repeated
