-- Races of a festival, each searched with its part of one list of numbers.
pub mod Own
pub mod Festival
