-- What a search answers.
pub mod Found
