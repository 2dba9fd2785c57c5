-- The laws of counting anew, in reading order.
pub mod Along
pub mod Laid
pub mod Keeping
pub mod Unnamed
pub mod Recounting
pub mod Cores
pub mod Callers
