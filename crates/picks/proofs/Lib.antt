-- Laws of the lists and the picks.
pub mod Room
pub mod Noting
