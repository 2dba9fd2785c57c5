-- Laws of the choice over a clause's list.
pub mod Choosing
