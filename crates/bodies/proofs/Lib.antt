-- The laws behind the tests of a field's body.
pub mod Found
pub mod Tags
pub mod Ranges
pub mod TermLaws
pub mod LockLaws
pub mod Parts
