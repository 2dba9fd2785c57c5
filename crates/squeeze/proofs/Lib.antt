-- The laws of a file rewritten whole, and of a squeeze.
pub mod Opening
pub mod Wholly
pub mod Outcomes
pub mod Squeezes
