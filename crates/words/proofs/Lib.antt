-- What holds of numbers in bytes.
pub mod Words
pub mod Signs
pub mod Writes
pub mod Tests
