-- What a search answers and leaves, for every lent byte.
pub mod Calls
pub mod Within
