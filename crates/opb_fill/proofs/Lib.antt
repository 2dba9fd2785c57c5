-- The laws of the tables filled from a text.
pub mod Accepted
pub mod Terms
pub mod Filled
