-- Why the words of a rule's sizes say them.
pub mod Sizes
pub mod Sizing
