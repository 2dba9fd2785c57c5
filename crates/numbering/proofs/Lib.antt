-- The laws of codes and new numbers.
pub mod Coding
pub mod Listing
pub mod Filling
