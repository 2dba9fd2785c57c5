-- What holds of the plan that two lists mean, and of their values as the code holds them.
pub mod Solutions
pub mod Bytes
pub mod Counts
pub mod Lawful
pub mod Judging
pub mod Accepted
pub mod Values
pub mod RowBytes
