-- The laws behind the generator.
pub mod Stream
pub mod Example
