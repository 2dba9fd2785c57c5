-- Laws of a clause's rules beside the places of its group.
pub mod Merging
-- Laws of what a flip changes of them joined.
pub mod Pairs
