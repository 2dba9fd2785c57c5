-- What the walk keeps beside the tallies and the marks, so that a move goes through no rule's terms.
pub mod Layout
pub mod Columns
pub mod Frames
