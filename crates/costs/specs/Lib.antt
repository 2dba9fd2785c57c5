-- An assignment's cost and l(O), as the code sums them.
pub mod Sums
