-- What the code that judges the mapper's two lists answers.
pub mod Judging
