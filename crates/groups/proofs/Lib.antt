-- Laws of a stretch of a variable's run.
pub mod Stretch
-- A run as the columns see it.
pub mod Runs
