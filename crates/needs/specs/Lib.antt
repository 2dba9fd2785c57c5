-- A rule by what is kept of it, and the needs of its two sides.
pub mod Rules
pub mod Needs
