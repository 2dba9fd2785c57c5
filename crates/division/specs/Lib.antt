-- A list of numbers split among races.
pub mod Split
pub mod Eight
