-- The laws of bytes rewritten in place.
pub mod Putting
pub mod Termwise
pub mod Rulewise
pub mod Clausewise
