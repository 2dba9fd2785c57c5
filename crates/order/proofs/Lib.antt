-- The theorems about a plan's terms by variable.
pub mod Occurrences
pub mod Runs
pub mod Along
pub mod Midway
pub mod Tested
pub mod Filling
pub mod Mentions
pub mod Shares
pub mod Words
pub mod Terms
pub mod Grouped
pub mod Thresholds
pub mod Blocks
pub mod Groups
