-- What the tests of a field's body say.
pub mod Faults
