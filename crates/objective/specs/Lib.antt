-- The objective in the tables, and the clause added to them.
pub mod Added
