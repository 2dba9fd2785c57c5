-- Rows are read by RFC 4180's rules: every text of them is read, and nothing else is.
pub mod Bools
pub mod Complete
pub mod Sound
