-- What stands in a field's body, judged entry by entry.
pub mod Faults
pub mod Terms
pub mod Locks
