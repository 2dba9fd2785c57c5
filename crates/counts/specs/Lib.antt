-- Which clauses of a run are met.
pub mod Met
