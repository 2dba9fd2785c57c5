-- The laws behind the search of tables that are known to fit.
pub mod Whole
