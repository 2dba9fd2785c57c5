-- What the search of tables that are known to fit answers and leaves.
pub mod Whole
