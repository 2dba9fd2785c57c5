-- Why the tallies that follow a variable's run are those of the flipped bits, and how many rule tallies a flip rewrites.
pub mod Passing
pub mod Following
pub mod Rewritten
