-- Figures over many runs, with what is refused.
pub mod Calls
