-- The laws behind the tests of many runs.
pub mod Refusing
