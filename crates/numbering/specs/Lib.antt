-- What the functions say that number the unlocked variables.
pub mod Numbered
