-- The laws of a text read.
pub mod Whole
pub mod Holding
