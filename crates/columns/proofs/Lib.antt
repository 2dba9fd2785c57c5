-- Laws of the walk's columns.
pub mod Entries
pub mod Frames
pub mod Kept
pub mod Marks
