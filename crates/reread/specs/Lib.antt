-- What is claimed of a plan's text that is read again.
pub mod Claims
