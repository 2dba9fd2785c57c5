-- Laws of a run that breaks nothing, of sums along a run, and of the places where a group begins.
pub mod Free
pub mod Sums
pub mod Begins
