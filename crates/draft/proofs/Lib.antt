-- The laws of the plan file of two lists, part by part.
pub mod Writing
pub mod Terms
pub mod Rules
pub mod Files
