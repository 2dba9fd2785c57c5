-- What is claimed of two searches whose lists of numbers differ in length.
pub mod Answers
pub mod Longer
