-- The laws behind moves, tries and calls, in reading order.
pub mod Trying
