-- What writing a plan as a text answers and leaves.
pub mod Calls
pub mod Refusals
