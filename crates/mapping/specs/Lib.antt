-- What the call from the mapper's two lists to a plan file answers and leaves.
pub mod Mapping
pub mod Answered
