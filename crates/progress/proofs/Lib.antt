-- The laws behind the tightening, in reading order.
pub mod Bounds
pub mod Concluding
