-- The generator's numbers.
pub mod Xorwow
