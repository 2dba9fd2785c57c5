-- The laws of the objective's section and of its sums.
pub mod Coefficients
pub mod Costs
