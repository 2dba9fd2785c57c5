-- Why the needs that are written are those of the rules.
pub mod Words
pub mod Parts
pub mod Filling
