-- What loading answers and leaves, and what the functions below it say, in reading order.
pub mod Load
pub mod Places
pub mod Sections
