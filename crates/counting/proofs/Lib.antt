pub mod Bounds
pub mod Difference
pub mod Joining
pub mod Marks
pub mod Signed
pub mod Words
