-- What holds of the places of an accepted file, of the tables filled from it, and of loading.
pub mod Found
pub mod Entered
pub mod Filled
pub mod Dense
pub mod Whole
pub mod Ordered
pub mod Holding
pub mod Within
