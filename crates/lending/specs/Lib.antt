-- What a search is lent.
pub mod Work
pub mod Lent
