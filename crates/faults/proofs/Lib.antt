-- The laws behind the tests of a field's body.
pub mod Faults
