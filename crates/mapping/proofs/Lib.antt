-- The call's answers, and what a file that it writes means.
pub mod Answers
pub mod Meaning
