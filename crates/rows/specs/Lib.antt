-- What the code that reads rows answers.
pub mod Reading
