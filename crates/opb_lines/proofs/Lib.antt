-- The laws of lines.
pub mod FirstLine
pub mod Lines
