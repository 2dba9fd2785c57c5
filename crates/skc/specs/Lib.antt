-- What the SKC choice needs.
pub mod Choosing
