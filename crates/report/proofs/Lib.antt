-- The laws behind what is printed once a plan is read.
pub mod Answering
pub mod Reporting
