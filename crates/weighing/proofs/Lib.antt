-- How far the weights have come.
pub mod Weighing
