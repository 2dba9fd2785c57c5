-- The variables to pick among.
pub mod Picks
-- A clause to choose of.
pub mod Choice
