-- What the answer to a file says.
pub mod Answers
