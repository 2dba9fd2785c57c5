-- Laws of what a flip mends.
pub mod Mending
