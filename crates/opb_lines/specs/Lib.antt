-- What an OPB text says, line by line.
pub mod ReadText
pub mod Lines
