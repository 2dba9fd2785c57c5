-- The sizes of signed numbers.
pub mod Sizes
