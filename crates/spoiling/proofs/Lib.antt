-- Laws of what a flip spoils along the run.
pub mod Counting
