-- What holds of one rule of the tables, for the code of this crate and for its callers.
pub mod Terms
pub mod Summing
pub mod Finding
pub mod Sizes
pub mod States
pub mod Tables
