-- The laws of the lists as the code judges them.
pub mod Tests
pub mod Rows
pub mod Verdicts
