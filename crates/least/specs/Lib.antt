-- The least break count among some variables, and those that have it.
pub mod Best
