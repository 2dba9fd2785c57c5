-- The laws of constraints as bytes.
pub mod Bytes
pub mod Sides
pub mod Stored
