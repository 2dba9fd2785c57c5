-- Laws of a place of a variable's run.
pub mod Words
pub mod Kept
pub mod Runs
pub mod Places
pub mod After
pub mod Visits
pub mod Hints
