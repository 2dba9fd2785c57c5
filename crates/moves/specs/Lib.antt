-- What one step of the walk answers and leaves.
pub mod Moves
