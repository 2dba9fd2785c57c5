-- The mapper's two lists, in reading order.
pub mod Lists
pub mod Choices
pub mod Refusals
