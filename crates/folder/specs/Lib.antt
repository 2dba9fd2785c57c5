-- What the program reads from its folder, and what it prints.
pub mod Files
