-- A plan's terms by variable, and the flip that visits only those; whether a flip breaks a clause.
pub mod Order
pub mod Along
pub mod Mentions
pub mod Grouped
pub mod Blocks
pub mod Breaks
