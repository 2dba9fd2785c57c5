-- The laws behind fractions in lowest terms.
pub mod Euclid
pub mod Lowest
pub mod Signs
