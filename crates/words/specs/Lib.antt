pub mod Words
pub mod Writes
pub mod Signed
pub mod Tests
