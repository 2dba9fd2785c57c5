-- How the program's lines are spelled.
pub mod Text
