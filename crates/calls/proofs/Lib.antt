-- What holds of the tests and calls.
pub mod Bits
pub mod Opening
pub mod Accepting
