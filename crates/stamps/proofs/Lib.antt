-- Laws of the numbers of the last flips.
pub mod Stamping
