-- The laws of the whole text.
pub mod Parts
pub mod Whole
