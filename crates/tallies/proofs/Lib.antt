-- What holds of opening, flip and counts.
pub mod Bits
pub mod Order
pub mod TallyBytes
pub mod Exact
pub mod Tallied
pub mod Refusals
pub mod Steps
pub mod Narrow
pub mod Demand3
pub mod Within
pub mod Passed
