-- The plan file and the tables, in reading order.
pub mod Limits
pub mod File
pub mod Tags
pub mod Modes
pub mod Writer
pub mod Locks
pub mod Layout
pub mod Tables
pub mod Good
pub mod Assignment
