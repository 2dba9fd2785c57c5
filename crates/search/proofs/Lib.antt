-- The laws behind the search with its tests, in reading order.
pub mod Refusing
pub mod Handing
pub mod Within
