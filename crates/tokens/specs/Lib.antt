-- The items of an OPB text by their places.
pub mod Tokens
pub mod Found
