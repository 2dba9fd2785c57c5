-- The laws of bytes put one after another.
pub mod Overlay
pub mod Puts
pub mod Digits
