-- The theorems on the text of a plan.
pub mod Sums
pub mod Rules
pub mod Extends
