-- What holds of numbers taken and places found; then what a run of the walk comes to step by step, for code that follows it.
pub mod Keep
pub mod Taking
pub mod Finding
pub mod Runs
