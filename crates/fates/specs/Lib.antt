-- What the functions say that judge rules and clauses, in reading order.
pub mod Codes
pub mod Maps
pub mod Sums
pub mod Parts
pub mod Rules
pub mod Rest
