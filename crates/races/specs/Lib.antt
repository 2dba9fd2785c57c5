-- Races and their parts.
pub mod Races
