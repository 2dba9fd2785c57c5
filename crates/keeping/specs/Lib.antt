-- What one place of a run does to the tallies and to what is kept behind them, and what a flip leaves.
pub mod Keeping
pub mod Flip
