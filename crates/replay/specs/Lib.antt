-- A list of calls in bytes, and what replaying it answers and leaves.
pub mod Replay
pub mod Account
