-- What is printed once a plan is read.
pub mod Report
