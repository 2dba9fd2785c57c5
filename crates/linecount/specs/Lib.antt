-- What counting a text's lines needs.
pub mod Counts
