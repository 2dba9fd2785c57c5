-- What the counts of the code say.
pub mod Counted
