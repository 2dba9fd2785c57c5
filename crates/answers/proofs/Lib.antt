-- The laws behind the two lines of an answer.
pub mod Lines
