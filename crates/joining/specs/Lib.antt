-- The rules of a clause beside the places of its group.
pub mod Merging
-- What is spoiled or mended, and what is left unsatisfied, of the rules joined.
pub mod Pairs
