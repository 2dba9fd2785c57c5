-- What many runs are asked for.
pub mod Trials
