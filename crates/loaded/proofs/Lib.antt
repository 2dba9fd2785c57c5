-- What the proofs of the test of tables share.
pub mod Turns
pub mod Parts
pub mod Falls
