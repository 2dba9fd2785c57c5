-- What is claimed of the text of a plan.
pub mod Claims
