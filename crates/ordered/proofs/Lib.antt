-- Why the test of the order's words is that of its definition.
pub mod Words
pub mod Runs
