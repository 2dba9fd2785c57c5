-- The laws behind the tests of what is lent.
pub mod Tests
