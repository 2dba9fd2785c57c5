-- Runs of the search, and what is reported of them.
pub mod Runs
pub mod Figures
