-- The laws of the items.
pub mod Runs
pub mod Numbers
