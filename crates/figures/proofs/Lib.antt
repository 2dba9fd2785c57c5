-- The laws behind the sums and the figures.
pub mod Apart
pub mod Adding
pub mod Means
