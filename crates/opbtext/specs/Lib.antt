-- What writing a plan's text needs.
pub mod Whole
pub mod Parts
