-- The laws of the answer to three files.
pub mod Responding
