-- The laws of a festival.
pub mod Apart
pub mod InTurn
pub mod Racing
