-- What the contracts of this crate say.
pub mod Terms
pub mod Sums
pub mod Places
pub mod Rules
pub mod State
