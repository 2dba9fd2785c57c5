-- Why the builder leaves the order.
pub mod Bases
pub mod Steps
pub mod Next
pub mod Loops
pub mod Deriving
