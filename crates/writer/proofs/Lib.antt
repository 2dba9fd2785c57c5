-- Loaded tables are fit to be written, their text is short enough to be measured, and what the call then answers.
pub mod Fits
pub mod Short
pub mod Answers
