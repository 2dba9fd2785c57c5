-- The laws behind figures over many runs.
pub mod Refusing
pub mod Reporting
