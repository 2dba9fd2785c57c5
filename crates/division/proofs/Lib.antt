-- Laws of the split.
pub mod Laws
pub mod Whole
pub mod Plain
pub mod Stepwise
