-- What one place of a run does to the tallies, word by word, and how many rule tallies a flip rewrites.
pub mod Passing
pub mod Rewritten
