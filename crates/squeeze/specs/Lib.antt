-- What a squeeze answers and leaves, and what the functions below it say.
pub mod Calls
pub mod Rewritten
