-- The laws of a rule's lines.
pub mod Lines
pub mod Entries
