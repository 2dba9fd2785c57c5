-- What the tightening answers and leaves.
pub mod Bounds
