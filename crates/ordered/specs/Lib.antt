-- What the test of the order needs.
pub mod Ready
pub mod Stands
