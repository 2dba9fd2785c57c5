-- What the judge of an OPB text says of a line.
pub mod Steps
