-- Constraints as the code puts them.
pub mod Bytes
pub mod Sides
