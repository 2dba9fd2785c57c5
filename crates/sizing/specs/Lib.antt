-- What the words of a rule's K, A and B must be, and what is written of them.
pub mod Sizing
