-- What a flip does at one place of a variable's run, as the walk's columns tell it.
pub mod Kept
-- What the walk stands on, and a variable's run in it.
pub mod Footing
pub mod Run
