-- What the planner sets: which numbers are refused, and what the others mean.
pub mod Settings
